use Rattle.std.proofs.Common.{◌≡◌, ◌+◌, ◌*◌, List, [], ◌∷◌, ◌++◌, min, sum_by, ap, sym, ◌∙◌}
use Rattle.fam_model.specs.declared.script.Statement.{Statement}
use Rattle.fam_model.specs.declared.script.Statement.TheVariants as statement
use Rattle.fam_model.specs.ScriptText.{call_count}
use Rattle.fam_script.proofs.Counts.{closed_count}
use Rattle.fam_script.proofs.script.unfinished.Unfinished.close.Goals as goal

pub invariant_of-result : goal.invariant_of-result
invariant_of-result c =
    let repeat = c.in-Some.open in
    let block : c.push.new.self ≡ repeat.before ++ statement.Repeat repeat.times c.args.self.block ∷ [] =
    c.in_ok-push.ensures.ok ∙ ap (λ (body : List Statement). repeat.before ++ statement.Repeat repeat.times body ∷ []) (c.from_vec-body.ensures ∙ c.into_vec.ensures) in
    record {
      counted =
          c.capped-3.ensures ∙ (λ i. min (c.capped.ensures i + c.capped-2.ensures i * c.from.ensures i) 65_537)
          ∙ closed_count repeat.before c.args.self.block repeat.times repeat.count c.args.self.count repeat.counted c.args.self.counted
          ∙ ap (λ (b : List Statement). min (sum_by call_count b) 65_537) (sym block);
    }

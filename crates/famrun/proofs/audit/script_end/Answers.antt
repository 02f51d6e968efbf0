use Rattle.std.proofs.Common.{◌≡◌, sym, ap, refl, ◌∙◌, arith, inl, inr, ◌<◌, ◌≤◌, length}
use Rattle.famrun.proofs.Inputs.{one_further}
use Rattle.famrun.proofs.audit.script_end.Goals as goal

pub loop-n-init : goal.loop-n-init
loop-n-init c k low = absurd (omega (arith, low))

pub returns-then-is_behind_stop : goal.returns-then-is_behind_stop
returns-then-is_behind_stop c =
    record {
      within = c.loop-n.auto.n-end;
      ends = inl (sym c.is_behind_stop.ensures ∙ c.if-is_behind_stop.true);
      first = c.loop-n.invariant;
    }

pub loop-n-preserved : goal.loop-n-preserved
loop-n-preserved c = one_further c.args.bytes.now c.loop-n.n c.loop-n.invariant (sym c.is_behind_stop.ensures ∙ c.if-is_behind_stop.false)

pub returns : goal.returns
returns c =
    let past = c.loop-n-test.false in
    record {
      within = omega arith;
      ends = inr refl;
      first = λ k low. c.loop-n.invariant k (omega (arith, low, past));
    }

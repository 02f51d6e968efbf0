use Rattle.std.proofs.Common.{ap, length, sym, ◌∙◌, ◌∷◌, ◌++◌, []}
use Rattle.pe_core.specs.Standing.{left}
use Rattle.fam_audit.proofs.Turning.{due_of, grown_lines}
use Rattle.fam_audit.proofs.turn.Turn.replied.Goals as goal

pub returns : goal.returns
returns c program replies is =
    let stands = c.replied.ensures.stands program replies is.stands in
    record {
      stands = stands;
      due = sym c.in_ok-self.ensures ∙ due_of program (replies ++ c.args.reply ∷ []) (left c.replied.new.self) stands;
      lines_are = grown_lines c.args.number (length c.as_slice.result.now) replies c.args.reply c.args.self.now.lines.items c.push.new.self.items is.lines_are (ap length c.as_slice.ensures.value) c.in_ok-push.ensures.items;
    }

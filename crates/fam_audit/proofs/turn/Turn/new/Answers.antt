use Rattle.std.proofs.Common.{sym, ◌∙◌, []}
use Rattle.pe_core.specs.Standing.{left}
use Rattle.fam_audit.proofs.Turning.{due_of}
use Rattle.fam_audit.proofs.turn.Turn.new.Goals as goal

pub returns : goal.returns
returns c program there =
    record {
      stands = c.in_ok-pe.ensures program there;
      due = sym c.in_ok-asked.ensures ∙ due_of program [] (left c.in_ok-pe.pe) (c.in_ok-pe.ensures program there);
      lines_are = c.new-2.ensures.items;
    }

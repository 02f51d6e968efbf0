-- What contracts see of the fields of a program.
use Rattle.std.specs.Prelude.{map}
use Rattle.fam_model.specs.declared.state.ProgramState.{ProgramState}
use Rattle.fam_program.specs.declared.tracked.TrackedProgram.{TrackedProgram}
use Rattle.fam_program.specs.declared.program.Program.TheInside.{Inside}
use Rattle.fam_program.specs.Held.{contexts_of, outs_of}

-- the program of the definitions, and what is out in its contexts
abbrev pub tracked_program : Inside → TrackedProgram
tracked_program p =
    record {
      state = record {
        who = p.who;
        is_local = p.is_local;
        standing = p.standing;
        region_slots = p.region_slots;
        item_slots = p.item_slots;
        contexts = contexts_of p.contexts;
        data_calls = p.data_calls;
        moved = p.moved;
        pieces = p.pieces;
        next_call = p.next_call;
        started = p.started;
        arrived = p.arrived;
      };
      out = outs_of p.contexts;
    }

use Rattle.std.proofs.Common.{◌≡◌, ◌≤◌, ◌<◌, ◌-◌}
use Rattle.fam_model.specs.PieceStep.{overwritten}
use Rattle.striped_memory.specs.Striped.{bytes_of, with_bytes, zeros}
use Rattle.striped_memory.proofs.memory.StripedMemory.zero.Given as goal

-- zeros so far
abbrev pub invariant-loop-left : goal.invariant-loop-left
invariant-loop-left l =
    record {
      least : l.left ≤ l.n;
      wide : 0 < l.unit;
      unit : l.unit ≡ l.fn.self.service.unit;
      written : l.self ≡ with_bytes l.fn.self l.region.0 (overwritten l.address (zeros (l.n - l.left)) (bytes_of l.fn.self l.region.0));
    }

abbrev pub decreases-loop-left : goal.decreases-loop-left
decreases-loop-left l = l.left

use Rattle.std.proofs.Common.{◌+◌, ◌*◌, length}
use Rattle.counter.proofs.tests.+add_at_once.Given as goal

abbrev pub decreases-add_to_all : goal.decreases-add_to_all
decreases-add_to_all g l = 2 * length l.passes.now

abbrev pub decreases-add_to_one : goal.decreases-add_to_one
decreases-add_to_one g l = 2 * length l.rest.now + 1

use Rattle.std.proofs.Common.{◌+◌, ℕ, ◌∙◌, ap, subst, length, slice_range}
use Rattle.std.specs.Prelude.{IsTrue}
use Rattle.fam_layout.specs.Layouts.{is_lawful}
use Rattle.fam_model.specs.Pieces.{place_at}
use Rattle.striped_memory.specs.Striped.{Striped, bytes_of}
use Rattle.striped_memory.proofs.Known.{place_lies, place_address}
use Rattle.striped_memory.proofs.memory.StripedMemory.read.Goals as goal

pub read_at_place-requires : goal.read_at_place-requires
read_at_place-requires c =
    place_lies c.args.self.now c.args.region.0 c.args.address (length c.args.into.now) c.place-place.result
    (subst (λ (m : Striped). IsTrue (is_lawful m.service)) c.self.view_is c.self.invariant.lawful)
    (c.place-place.ensures ∙ ap (λ (m : Striped). place_at m.service c.args.region.0 c.args.address) c.self.view_is)
    c.requires

pub returns : goal.returns
returns c =
    c.read_at_place.ensures
    ∙ ap (λ (address : ℕ). slice_range (bytes_of c.args.self.now c.args.region.0) address (address + length c.args.into.now))
    (place_address c.args.self.now c.args.region.0 c.args.address c.place-place.result
    (subst (λ (m : Striped). IsTrue (is_lawful m.service)) c.self.view_is c.self.invariant.lawful)
    (c.place-place.ensures ∙ ap (λ (m : Striped). place_at m.service c.args.region.0 c.args.address) c.self.view_is))

use Rattle.std.proofs.Common.{◌≡◌, drop, map}
use Rattle.fam_directory.specs.Names.{NameEntry}
use Rattle.fam_directory.specs.Slots.{without_numbers}
use Rattle.fam_directory.proofs.items.Items.remove_named.Given as goal

-- without the numbers that are left, the rows are those without all of them
abbrev pub invariant-loop-at : goal.invariant-loop-at
invariant-loop-at l = record {
  left : without_numbers l.region.0 (drop l.at (map (λ (e : NameEntry). e.number) l.names.entries)) l.self.rows ≡ without_numbers l.region.0 (map (λ (e : NameEntry). e.number) l.names.entries) l.fn.self.rows;
  same : l.self.next ≡ l.fn.self.next;
}

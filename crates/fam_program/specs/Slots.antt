-- Slots as lists.
use Rattle.std.specs.Prelude.{ℕ, Bool, true, false, List, slice_get, slice_set, Option, Some, None}
use Rattle.fam_base.specs.declared.naming.RegionId.{RegionId}
use Rattle.fam_base.specs.declared.naming.Descriptor.{Descriptor}
use Rattle.fam_model.specs.declared.call.MetaCall.{MetaCall}
use Rattle.fam_model.specs.declared.call.MetaCall.TheVariants as meta
use Rattle.fam_model.specs.declared.reply.Reply.{Reply}
use Rattle.fam_model.specs.declared.reply.Reply.TheVariants as reply
use Rattle.fam_model.specs.Lists.{◌>>=◌}

-- what a slot holds
abbrev pub held_at : {A : Type 0} → List (Option A) → ℕ → Option A
held_at slots slot = slice_get slots slot >>= λ held. held

-- the number of the common region
abbrev pub common_region : RegionId
common_region = record { 0 = 0 }

-- the slot that a call fills with a region that its reply tells
abbrev pub region_slot_of : MetaCall → Option ℕ
region_slot_of (meta.CreateRegion slot name size mode) = Some slot
region_slot_of (meta.LookupRegion slot name) = Some slot
region_slot_of _ = None

-- the slot that a call fills with an item that its reply tells
abbrev pub item_slot_of : MetaCall → Option ℕ
item_slot_of (meta.Allocate slot name size mode region) = Some slot
item_slot_of (meta.Lookup slot name region) = Some slot
item_slot_of _ = None

-- the slots once a call with this reply filled that one
abbrev pub regions_after : List (Option RegionId) → Option ℕ → Reply → List (Option RegionId)
regions_after slots (Some slot) (reply.Region region) = slice_set slots slot (Some region)
regions_after slots _ _ = slots

-- the same of items
abbrev pub items_after : List (Option Descriptor) → Option ℕ → Reply → List (Option Descriptor)
items_after slots (Some slot) (reply.Item descriptor) = slice_set slots slot (Some descriptor)
items_after slots _ _ = slots

-- a call that tells no name
abbrev pub has_no_name : MetaCall → Bool
has_no_name (meta.CreateRegion slot name size mode) = false
has_no_name (meta.LookupRegion slot name) = false
has_no_name (meta.Lookup slot name region) = false
has_no_name (meta.Allocate slot name size mode region) = false
has_no_name _ = true

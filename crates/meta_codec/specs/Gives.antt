-- What a reader answers.
use Rattle.std.specs.Prelude.{◌≡◌, Option, Some, None, Result, Ok, Err}
use Rattle.meta_codec.specs.declared.unread.Unread.{Unread}
use Rattle.meta_codec.specs.declared.unread.Unread.TheVariants.{Memory, NoBody}

abbrev pub Fails : {Y : Type 0} → Unread → Option Y → Type 0
Fails Memory read = Unit {0}
Fails NoBody read = read ≡ None

-- What a reader answers, seen by view, is what reading gives, unless memory was wanting.
abbrev pub Gives : {X Y : Type 0} → (X → Y) → Result X Unread → Option Y → Type 0
Gives view (Ok x) read = read ≡ Some (view x)
Gives view (Err unread) read = Fails unread read

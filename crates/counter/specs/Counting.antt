-- A counter with bookings: what a call answers, and what it leaves.
use Rattle.std.specs.Prelude.{◌≡◌, ℕ, ◌+◌, ◌<◌, ◌≤◌, ◌^◌, Option, None, Some}
use Rattle.fam_base.specs.declared.error.FamError.{FamError}
use Rattle.fam_base.specs.declared.error.FamError.TheVariants.{Memory}
use Rattle.counter.specs.declared.counter.Counter.{Counter}
use Rattle.counter.specs.declared.counter.Call.{Call}
use Rattle.counter.specs.declared.counter.Call.TheVariants.{Add, Get, Open, Close}

-- each call answers what the counter was
abbrev pub gives : Counter → Call → ℕ → Counter → Type 0
gives c (Add k) r d = (r ≡ c.value) × (d.value ≡ c.value + k) × (d.booked ≡ c.booked)
gives c Get r d = (r ≡ c.value) × (d ≡ c)
gives c (Open by) r d = (r ≡ c.value) × (d.value ≡ c.value) × (d.booked ≡ c.booked + 1)
gives c (Close by) r d = (r ≡ c.value) × (d.value ≡ c.value) × (d.booked + 1 ≡ c.booked)

-- a booking needs an entry, and one more that is kept for its end
abbrev pub needs : Call → ℕ
needs (Add k) = 1
needs Get = 1
needs (Open by) = 2
needs (Close by) = 0

abbrev pub owner : Call → Option ℕ
owner (Add k) = None
owner Get = None
owner (Open by) = Some by
owner (Close by) = Some by

-- who closes a booking shows that one stands. The other calls test their condition
abbrev pub Asks : Counter → Call → Type 0
Asks c (Add k) = Unit {0}
Asks c Get = Unit {0}
Asks c (Open by) = Unit {0}
Asks c (Close by) = 0 < c.booked

abbrev pub Fits : Counter → Call → Type 0
Fits c (Add k) = c.value + k < 2 ^ 64
Fits c Get = Unit {0}
Fits c (Open by) = c.booked < 2 ^ 32
Fits c (Close by) = 0 < c.booked

-- the calls that test their condition answer Memory where it does not hold
abbrev pub Refuses : Counter → Call → FamError → Type 0
Refuses c (Add k) e = (e ≡ Memory) × (2 ^ 64 ≤ c.value + k)
Refuses c Get e = ⊥
Refuses c (Open by) e = (e ≡ Memory) × (2 ^ 32 ≤ c.booked)
Refuses c (Close by) e = ⊥

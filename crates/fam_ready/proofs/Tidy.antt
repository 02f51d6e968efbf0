-- Steps keep a state tidy.
use Rattle.std.proofs.Common.{◌≡◌, ℕ, ◌+◌, ◌<◌, ◌≤◌, Bool, true, false, List, [], ◌∷◌, ◌++◌, refl, sym, ap, ◌∙◌, arith, subst, inl, inr, length}
use Rattle.std.specs.Prelude.{◌==◌, ◌⊎◌, Option, Some, None, slice_get, slice_set}
use Rattle.std.specs.List.{list_any}
use Rattle.std.proofs.lemmas.Bool.{cases_lt}
use Rattle.std.proofs.lemmas.Option.{slice_get_within}
use Rattle.fam_model.specs.declared.piece.Operation.{Operation}
use Rattle.fam_model.specs.declared.state.Context.{Context}
use Rattle.fam_model.specs.declared.state.ProgramState.{ProgramState}
use Rattle.fam_model.specs.Operations.{is_left, has_left, is_pending}
use Rattle.fam_schedule.specs.Made.{StandsAt}
use Rattle.fam_schedule.proofs.Changes.{set_at}
use Rattle.fam_schedule.proofs.Finding.{any_at_place}
use Rattle.fam_schedule.proofs.Issued.{get_last}
use Rattle.fam_schedule.proofs.Keeps.{with_both}
use Rattle.fam_ready.specs.Ready.{IsTidyContext, IsTidyProgram}
use Rattle.fam_ready.proofs.Coming.{same_some}
use Rattle.fam_ready.proofs.Same.{plain, AreAlike, alike_at}
use Rattle.fam_ready.proofs.Turns.{IsTold, IsOpened, IsIssued, IsAnswered, IsQuiet, Stays, Turns, IsAsBefore}

-- where an operation comes from

-- one of the same call stood there
abbrev pub WasThere : Context → ℕ → Operation → Type 0
WasThere x k o = (old : Operation) × (slice_get x.operations k ≡ Some old) × (old.call ≡ o.call)

-- a context that stays tidy: each operation was there, but for one of the call n behind all others
pub record StaysTidy (n m : ℕ) (x y : Context) : Type 0 where
  pub tidy : IsTidyContext m y
  pub from : (k : ℕ) (o : Operation) → slice_get y.operations k ≡ Some o → WasThere x k o ⊎ ((k ≡ length x.operations) × (o.call ≡ n))

nothing_at : (xs : List Operation) (k : ℕ) (o : Operation) → xs ≡ [] → slice_get xs k ≡ Some o → k < k
nothing_at xs k o none there =
    let low : k < length xs = slice_get_within xs k o there in
    let zero : length xs ≡ 0 = ap length none in
    omega arith

not_pending : (x : Context) (k : ℕ) (o : Operation) → is_pending x ≡ false → slice_get x.operations k ≡ Some o → has_left o ≡ false
not_pending x k o idle there = by_left (has_left o) refl
  where
    by_left : (b : Bool) → has_left o ≡ b → has_left o ≡ false
    by_left false e = e
    by_left true e = let yes : is_pending x ≡ true = any_at_place has_left x.operations k o there e in let no : true ≡ false = sym yes ∙ idle in cc

-- more calls may have been made
higher : (n m : ℕ) (x : Context) → n ≤ m → IsTidyContext n x → IsTidyContext m x
higher n m x h t =
    record {
      below = λ k o there. let low : o.call < n = t.below k o there in omega arith;
      latest = t.latest;
      closed = t.closed;
    }

told_tidy : (n m : ℕ) (x y : Context) → n ≤ m → IsTold x y → IsTidyContext n x → StaysTidy n m x y
told_tidy n m x y h told t =
    record {
      tidy = record {
        below = λ k o there.
            let a = alike_at y.operations x.operations k o (sym told.operations) there in
            let low : a.0.call < n = t.below k a.0 a.1 in
            let same : a.0.call ≡ o.call = ap (λ (q : Operation). q.call) a.2 in
            omega arith;
        latest = λ k o there.
            let a = alike_at y.operations x.operations k o (sym told.operations) there in
            let low : a.0.epoch ≤ x.epoch = t.latest k a.0 a.1 in
            let same : a.0.epoch ≡ o.epoch = ap (λ (q : Operation). q.epoch) a.2 in
            let up : x.epoch ≤ y.epoch = told.epoch in
            omega arith;
        closed = λ shut k o there.
            let a = alike_at y.operations x.operations k o (sym told.operations) there in
            ap has_left (sym a.2) ∙ none_left told.closed shut k a.0 a.1;
      };
      from = λ k o there.
          let a = alike_at y.operations x.operations k o (sym told.operations) there in
          inl (a.0, a.1, ap (λ (q : Operation). q.call) a.2);
    }
  where
    none_left : (y.is_open ≡ x.is_open) ⊎ (is_pending x ≡ false) → y.is_open ≡ false → (k : ℕ) (o : Operation) → slice_get x.operations k ≡ Some o → has_left o ≡ false
    none_left (inl same) shut k o there = t.closed (sym same ∙ shut) k o there
    none_left (inr idle) shut k o there = not_pending x k o idle there

pub opened_tidy : (n m : ℕ) (x y : Context) → y.operations ≡ [] → StaysTidy n m x y
opened_tidy n m x y none =
    record {
      tidy = record {
        below = λ k o there. let low : k < k = nothing_at y.operations k o none there in let no : ⊥ = omega arith in absurd no;
        latest = λ k o there. let low : k < k = nothing_at y.operations k o none there in let no : ⊥ = omega arith in absurd no;
        closed = λ shut k o there. let low : k < k = nothing_at y.operations k o none there in let no : ⊥ = omega arith in absurd no;
      };
      from = λ k o there. let low : k < k = nothing_at y.operations k o none there in let no : ⊥ = omega arith in absurd no;
    }

pub last_at : (n m : ℕ) (x y : Context) (i : IsIssued n m x y) (k : ℕ) (o : Operation) → slice_get y.operations k ≡ Some o →
    (slice_get x.operations k ≡ Some o) ⊎ ((k ≡ length x.operations) × (o ≡ i.new))
last_at n m x y i k o there =
    get_last x.operations i.new k o (ap (λ os. slice_get os k) (sym i.operations) ∙ there) (cases_lt k (length x.operations))

issued_tidy : (n m : ℕ) (x y : Context) → IsIssued n m x y → IsTidyContext n x → StaysTidy n m x y
issued_tidy n m x y i t =
    record {
      tidy = record {
        below = λ k o there. below_by k o (last_at n m x y i k o there);
        latest = λ k o there. latest_by k o (last_at n m x y i k o there);
        closed = λ shut k o there. let no : true ≡ false = sym i.open_now ∙ shut in cc;
      };
      from = λ k o there. from_by k o (last_at n m x y i k o there);
    }
  where
    below_by : (k : ℕ) (o : Operation) → (slice_get x.operations k ≡ Some o) ⊎ ((k ≡ length x.operations) × (o ≡ i.new)) → o.call < m
    below_by k o (inl old) = let low : o.call < n = t.below k o old in let up : n < m = i.number in omega arith
    below_by k o (inr (last, same)) =
        let call : o.call ≡ n = ap (λ (q : Operation). q.call) same ∙ i.call in let up : n < m = i.number in omega arith

    latest_by : (k : ℕ) (o : Operation) → (slice_get x.operations k ≡ Some o) ⊎ ((k ≡ length x.operations) × (o ≡ i.new)) → o.epoch ≤ y.epoch
    latest_by k o (inl old) = let low : o.epoch ≤ x.epoch = t.latest k o old in let same : y.epoch ≡ x.epoch = i.context in omega arith
    latest_by k o (inr (last, same)) =
        let epoch : o.epoch ≡ x.epoch = ap (λ (q : Operation). q.epoch) same ∙ i.epoch in let now : y.epoch ≡ x.epoch = i.context in omega arith

    from_by : (k : ℕ) (o : Operation) → (slice_get x.operations k ≡ Some o) ⊎ ((k ≡ length x.operations) × (o ≡ i.new)) → WasThere x k o ⊎ ((k ≡ length x.operations) × (o.call ≡ n))
    from_by k o (inl old) = inl (o, old, refl)
    from_by k o (inr (last, same)) = inr (last, ap (λ (q : Operation). q.call) same ∙ i.call)

-- what stands at a place once a piece was answered
pub answered_at : (u j : ℕ) (x y : Context) (a : IsAnswered u j x y) (k : ℕ) (o : Operation) → slice_get y.operations k ≡ Some o →
    ((k ≡ a.place) × (o ≡ with_both a.operation a.reads j a.first a.second)) ⊎ (slice_get x.operations k ≡ Some o)
answered_at u j x y a k o there =
    set_at (k == a.place) x.operations a.place k a.operation (with_both a.operation a.reads j a.first a.second) o refl a.there
    (ap (λ os. slice_get os k) (sym a.operations) ∙ there)

-- an operation with a piece left
pub answered_left : (u j : ℕ) (x y : Context) (a : IsAnswered u j x y) → has_left a.operation ≡ true
answered_left u j x y a = any_at_place is_left a.operation.pieces j a.left a.left_there a.is_left

answered_tidy : (u j n m : ℕ) (x y : Context) → n ≤ m → IsAnswered u j x y → IsTidyContext n x → StaysTidy n m x y
answered_tidy u j n m x y h a t =
    record {
      tidy = record {
        below = λ k o there. below_by k o (answered_at u j x y a k o there);
        latest = λ k o there. latest_by k o (answered_at u j x y a k o there);
        closed = λ shut k o there.
            let left = answered_left u j x y a in
            let none = t.closed (sym a.same_open ∙ shut) a.place a.operation a.there in
            let no : true ≡ false = sym left ∙ none in cc;
      };
      from = λ k o there. from_by k o (answered_at u j x y a k o there);
    }
  where
    now : Operation
    now = with_both a.operation a.reads j a.first a.second

    below_by : (k : ℕ) (o : Operation) → ((k ≡ a.place) × (o ≡ now)) ⊎ (slice_get x.operations k ≡ Some o) → o.call < m
    below_by k o (inl (place, same)) =
        let low : a.operation.call < n = t.below a.place a.operation a.there in
        let call : o.call ≡ a.operation.call = ap (λ (q : Operation). q.call) same in omega arith
    below_by k o (inr old) = let low : o.call < n = t.below k o old in omega arith

    latest_by : (k : ℕ) (o : Operation) → ((k ≡ a.place) × (o ≡ now)) ⊎ (slice_get x.operations k ≡ Some o) → o.epoch ≤ y.epoch
    latest_by k o (inl (place, same)) =
        let low : a.operation.epoch ≤ x.epoch = t.latest a.place a.operation a.there in
        let epoch : o.epoch ≡ a.operation.epoch = ap (λ (q : Operation). q.epoch) same in
        let up : y.epoch ≡ x.epoch = a.epoch in omega arith
    latest_by k o (inr old) = let low : o.epoch ≤ x.epoch = t.latest k o old in let up : y.epoch ≡ x.epoch = a.epoch in omega arith

    from_by : (k : ℕ) (o : Operation) → ((k ≡ a.place) × (o ≡ now)) ⊎ (slice_get x.operations k ≡ Some o) → WasThere x k o ⊎ ((k ≡ length x.operations) × (o.call ≡ n))
    from_by k o (inl (place, same)) = inl (a.operation, ap (slice_get x.operations) place ∙ a.there, ap (λ (q : Operation). q.call) (sym same))
    from_by k o (inr old) = inl (o, old, refl)

-- programs

-- one of the same call stood there, in whichever context
abbrev StoodAt : ProgramState → ℕ → ℕ → Operation → Type 0
StoodAt p c k o = (old : Operation) × StandsAt p c k old × (old.call ≡ o.call)

-- it is the new one
record IsNew (p : ProgramState) (context place c k : ℕ) (o : Operation) : Type 0 where
  in_context : c ≡ context
  at_place : k ≡ place
  call : o.call ≡ p.next_call

apart_by : (p : ProgramState) (context place c k d j : ℕ) (o r : Operation) → IsTidyProgram p →
    StoodAt p c k o ⊎ IsNew p context place c k o → StoodAt p d j r ⊎ IsNew p context place d j r → o.call ≡ r.call → (c ≡ d) × (k ≡ j)
apart_by p context place c k d j o r t (inl (a, a_at, a_call)) (inl (b, b_at, b_call)) same = t.apart c k d j a b a_at b_at (a_call ∙ same ∙ sym b_call)
apart_by p context place c k d j o r t (inl (a, a_at, a_call)) (inr new) same =
    let low : a.call < p.next_call = (t.each c a_at.context a_at.there).below k a a_at.at in
    let number : a.call ≡ p.next_call = a_call ∙ same ∙ new.call in
    let no : ⊥ = omega arith in absurd no
apart_by p context place c k d j o r t (inr new) (inl (b, b_at, b_call)) same =
    let low : b.call < p.next_call = (t.each d b_at.context b_at.there).below j b b_at.at in
    let number : b.call ≡ p.next_call = b_call ∙ sym same ∙ new.call in
    let no : ⊥ = omega arith in absurd no
apart_by p context place c k d j o r t (inr new) (inr other) same = (new.in_context ∙ sym other.in_context, new.at_place ∙ sym other.at_place)

pub turned_tidy : (How : Context → Context → Type 0) (p q : ProgramState) (t : Turns How p q) → IsTidyProgram p → StaysTidy p.next_call q.next_call t.was t.now → IsTidyProgram q
turned_tidy How p q t tidy stays =
    record {
      each = λ c z there. each_by c z (at_context c z there);
      apart = λ c k d j o r o_at r_at same.
          apart_by p t.place (length t.was.operations) c k d j o r tidy
          (from_by c k o o_at.context o_at.at (at_context c o_at.context o_at.there)) (from_by d j r r_at.context r_at.at (at_context d r_at.context r_at.there)) same;
    }
  where
    at_context : (c : ℕ) (z : Context) → slice_get q.contexts c ≡ Some z → ((c ≡ t.place) × (z ≡ t.now)) ⊎ (slice_get p.contexts c ≡ Some z)
    at_context c z there = set_at (c == t.place) p.contexts t.place c t.was t.now z refl t.there (ap (λ cs. slice_get cs c) (sym t.contexts) ∙ there)

    each_by : (c : ℕ) (z : Context) → ((c ≡ t.place) × (z ≡ t.now)) ⊎ (slice_get p.contexts c ≡ Some z) → IsTidyContext q.next_call z
    each_by c z (inl (place, is)) = subst (IsTidyContext q.next_call) (sym is) stays.tidy
    each_by c z (inr old) = higher p.next_call q.next_call z t.number (tidy.each c z old)

    from_new : (c k : ℕ) (o : Operation) → c ≡ t.place → WasThere t.was k o ⊎ ((k ≡ length t.was.operations) × (o.call ≡ p.next_call)) →
        StoodAt p c k o ⊎ IsNew p t.place (length t.was.operations) c k o
    from_new c k o place (inl (old, at, call)) = inl (old, record { context = t.was; there = ap (slice_get p.contexts) place ∙ t.there; at = at }, call)
    from_new c k o place (inr (at, call)) = inr (record { in_context = place; at_place = at; call = call })

    from_by : (c k : ℕ) (o : Operation) (z : Context) → slice_get z.operations k ≡ Some o → ((c ≡ t.place) × (z ≡ t.now)) ⊎ (slice_get p.contexts c ≡ Some z) →
        StoodAt p c k o ⊎ IsNew p t.place (length t.was.operations) c k o
    from_by c k o z at (inl (place, is)) = from_new c k o place (stays.from k o (ap (λ (w : Context). slice_get w.operations k) (sym is) ∙ at))
    from_by c k o z at (inr old) = inl (o, record { context = z; there = old; at = at }, refl)

stays_tidy : (p q : ProgramState) → Stays p q → IsTidyProgram p → IsTidyProgram q
stays_tidy p q s t =
    record {
      each = λ c z there. higher p.next_call q.next_call z s.number (t.each c z (ap (λ cs. slice_get cs c) (sym s.contexts) ∙ there));
      apart = λ c k d j o r o_at r_at same.
          t.apart c k d j o r
          (record { context = o_at.context; there = ap (λ cs. slice_get cs c) (sym s.contexts) ∙ o_at.there; at = o_at.at })
          (record { context = r_at.context; there = ap (λ cs. slice_get cs d) (sym s.contexts) ∙ r_at.there; at = r_at.at }) same;
    }

quiet_by : (n m : ℕ) (x y : Context) → n ≤ m → IsQuiet x y → IsTidyContext n x → StaysTidy n m x y
quiet_by n m x y h (inl told) t = told_tidy n m x y h told t
quiet_by n m x y h (inr opens) t = opened_tidy n m x y opens.operations

pub before_tidy : (p q : ProgramState) → IsAsBefore p q → IsTidyProgram p → IsTidyProgram q
before_tidy p q (inl stays) t = stays_tidy p q stays t
before_tidy p q (inr turns) t =
    turned_tidy IsQuiet p q turns t (quiet_by p.next_call q.next_call turns.was turns.now turns.number turns.how (t.each turns.place turns.was turns.there))

pub kept_tidy : (p q : ProgramState) → Stays p q → IsTidyProgram p → IsTidyProgram q
kept_tidy p q s t = stays_tidy p q s t

pub issue_tidy : (p q : ProgramState) → Turns (IsIssued p.next_call q.next_call) p q → IsTidyProgram p → IsTidyProgram q
issue_tidy p q turns t =
    turned_tidy (IsIssued p.next_call q.next_call) p q turns t
    (issued_tidy p.next_call q.next_call turns.was turns.now turns.how (t.each turns.place turns.was turns.there))

pub answer_tidy : (u j : ℕ) (p q : ProgramState) → Turns (IsAnswered u j) p q → IsTidyProgram p → IsTidyProgram q
answer_tidy u j p q turns t =
    turned_tidy (IsAnswered u j) p q turns t
    (answered_tidy u j p.next_call q.next_call turns.was turns.now turns.number turns.how (t.each turns.place turns.was turns.there))

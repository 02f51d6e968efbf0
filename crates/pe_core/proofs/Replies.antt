-- What is left stands for the replies so far.
use Rattle.std.proofs.Common.{◌≡◌, ℕ, zero, suc, ◌-◌, Bool, true, false, not, cond, List, [], ◌∷◌, Option, Some, None, refl, sym, ap, ◌∙◌, append_assoc, append-nil, arith}
use Rattle.std.specs.Prelude.{filter, ◌==◌, nat_le, ℤ}
use Rattle.std.specs.List.{flat_map, list_all}
use Rattle.std.proofs.lemmas.Bool.Decides.{nat_tests}
use Rattle.fam_model.specs.declared.call.Call.{Call}
use Rattle.fam_model.specs.declared.reply.Reply.{Reply}
use Rattle.fam_model.specs.declared.script.Program.{Program}
use Rattle.fam_model.specs.Text.{Turn, Once, Until, written_out, ends_spin, after_spin, spun, is_crash, next_of, next_call}
use Rattle.pe_core.specs.Left.{Left, makes_calls, turns_of, next_after, tried, behind, after_reply, StandsFor}
use Rattle.pe_core.specs.Standing.{StandsForMore, IsNext}
use Rattle.pe_core.proofs.Tests.{and_left}

not_zero : (n : ℕ) → (suc n == 0) ≡ false
not_zero n = grind (arith, nat_tests)

spun_same : (asked : Call) (f g : List Reply → Option Call) → ((others : List Reply) → f others ≡ g others) → (o : Option (List Reply)) → spun o asked f ≡ spun o asked g
spun_same asked f g same None = refl
spun_same asked f g same (Some others) = same others

-- turns that make no call change nothing
filtered : (turns : List Turn) (replies : List Reply) → next_of (filter makes_calls turns) replies ≡ next_of turns replies
filtered [] replies = refl
filtered (Once asked ∷ turns) [] = refl
filtered (Once asked ∷ turns) (given ∷ replies) = ap (λ (next : Option Call). cond (is_crash asked) None next) (filtered turns replies)
filtered (Until asked value zero ∷ turns) replies = filtered turns replies
filtered (Until asked value (suc tries) ∷ turns) replies =
    ap (λ (t : Bool). next_of (cond (not t) (Until asked value (suc tries) ∷ filter makes_calls turns) (filter makes_calls turns)) replies) (not_zero tries)
    ∙ spun_same asked (λ others. next_of (filter makes_calls turns) others) (λ others. next_of turns others) (λ others. filtered turns others) (after_spin (suc tries) value replies)

-- nothing was replied yet
pub stands_at_start : (program : Program) (turns : List Turn) → turns ≡ turns_of program.statements → StandsFor program [] (Some turns)
stands_at_start program turns e = record {
  goes_on = λ more. sym (ap (λ (ts : List Turn). next_of ts more) e ∙ filtered (flat_map written_out program.statements) more);
}

-- one reply more

spin_goes_on : (asked : Call) (value : ℤ) (tries : ℕ) (turns : List Turn) (more : List Reply) →
    spun (after_spin tries value more) asked (λ others. next_of turns others) ≡ next_of (tried (Until asked value (suc tries)) turns) more
spin_goes_on asked value zero turns more = refl
spin_goes_on asked value (suc tries) turns more =
    let some : nat_le (suc (suc tries)) 1 ≡ false = grind (arith, nat_tests) in
    let less : suc (suc tries) - 1 ≡ suc tries = omega arith in
    ap (λ (n : ℕ). next_of (Until asked value n ∷ turns) more) (sym less)
    ∙ ap (λ (b : Bool). next_of (cond b turns (Until asked value (suc (suc tries) - 1) ∷ turns)) more) (sym some)

taken : (turn : Turn) (turns : List Turn) (given : Reply) (more : List Reply) → makes_calls turn ≡ true → next_of (turn ∷ turns) (given ∷ more) ≡ next_after (behind turn turns given) more
taken (Once asked) turns given more call = by_crash (is_crash asked)
  where
    by_crash : (b : Bool) → cond b None (next_of turns more) ≡ next_after (cond b None (Some turns)) more
    by_crash true = refl
    by_crash false = refl
taken (Until asked value zero) turns given more call = absurd cc
taken (Until asked value (suc tries)) turns given more call = by_end (ends_spin value given)
  where
    by_end : (b : Bool) → spun (cond b (Some more) (after_spin tries value more)) asked (λ others. next_of turns others)
        ≡ next_after (cond b (Some turns) (Some (tried (Until asked value (suc tries)) turns))) more
    by_end true = refl
    by_end false = spin_goes_on asked value tries turns more

abbrev pub CallsLeft : Left → Type 0
CallsLeft None = Unit {0}
CallsLeft (Some turns) = list_all makes_calls turns ≡ true

after_is : (before : Left) (given : Reply) (more : List Reply) → CallsLeft before → next_after before (given ∷ more) ≡ next_after (after_reply before given) more
after_is None given more calls = refl
after_is (Some []) given more calls = refl
after_is (Some (turn ∷ turns)) given more calls = taken turn turns given more (and_left (makes_calls turn) (list_all makes_calls turns) calls)

pub stands_for_more : (before : Left) (given : Reply) → CallsLeft before → StandsForMore before given (after_reply before given)
stands_for_more before given calls = λ program replies stands. record {
  goes_on = λ more. ap (next_call program) (append_assoc replies (given ∷ []) more) ∙ stands.goes_on (given ∷ more) ∙ after_is before given more calls;
}

pub is_next : (before : Left) (asked : Call) → next_after before [] ≡ Some asked → IsNext before asked
is_next before asked e = λ program replies stands. ap (next_call program) (sym (append-nil replies)) ∙ stands.goes_on [] ∙ e

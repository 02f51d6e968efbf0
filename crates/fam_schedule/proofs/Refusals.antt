-- A refusal by the disk in place of the event that is due.
use Rattle.std.proofs.Common.{◌≡◌, ℕ, Bool, refl, sym, ap, ◌∙◌, inl, inr, subst}
use Rattle.std.specs.Prelude.{◌⊎◌, slice_get, Option, Some}
use Rattle.rand_pcg.specs.Lcg.{Lcg}
use Rattle.fam_base.specs.declared.error.FamError.TheVariants as error
use Rattle.fam_model.specs.declared.call.Call.{Call}
use Rattle.fam_model.specs.declared.call.Call.TheVariants as call
use Rattle.fam_model.specs.declared.call.MetaCall.{MetaCall}
use Rattle.fam_model.specs.declared.event.Event.{Event}
use Rattle.fam_model.specs.declared.event.What.{What}
use Rattle.fam_model.specs.declared.event.What.TheVariants as what
use Rattle.fam_model.specs.declared.reply.Reply.TheVariants as reply
use Rattle.fam_model.specs.declared.script.Program.{Program as Text}
use Rattle.fam_model.specs.declared.script.Script.{Script}
use Rattle.fam_model.specs.declared.state.ProgramState.{ProgramState}
use Rattle.fam_model.specs.declared.state.Started.{Started}
use Rattle.fam_model.specs.declared.state.Started.TheVariants as begun
use Rattle.fam_model.specs.Lists.{◌>>=◌}
use Rattle.fam_model.specs.Operations.{result}
use Rattle.fam_model.specs.PieceStep.{due_answer}
use Rattle.fam_model.specs.Programs.{placed, program_of}
use Rattle.fam_model.specs.Text.{next_call}
use Rattle.fam_model.specs.Turn.{call_made}
use Rattle.fam_schedule.specs.Schedule.{Run, IsDiskRefusal, Comes, event_of, event_after, first_event, next_step, replies_to}
use Rattle.fam_schedule.proofs.Options.{bind_some}
use Rattle.fam_schedule.proofs.Comes.{IsDue, comes_next, first_makes}

-- the disk refuses the change
abbrev pub disk_refusal : MetaCall → Bool → What
disk_refusal asked doubt = what.Refused (call.Meta asked) error.DiskFault doubt

-- the program has nothing started, and the disk refuses its next call
pub record IsRefused (text : Text) (run : Run) (pe : ℕ) (p : ProgramState) (event : Event) : Type 0 where
  pub nothing : p.started ≡ begun.Nothing
  pub asked : MetaCall
  pub due : next_call text (replies_to run.before pe) ≡ Some (call.Meta asked)
  pub doubt : Bool
  pub is : event ≡ event_of pe p.next_call (disk_refusal asked doubt)

-- the event is the refusal by the disk of some program's next call
pub record OfRefusal (script : Script) (run : Run) (event : Event) : Type 0 where
  pub pe : ℕ
  pub p : ProgramState
  pub there : program_of run.now pe ≡ Some p
  pub text : Text
  pub at : slice_get script.programs pe ≡ Some text
  pub refused : IsRefused text run pe p event

-- the event is due, or it is a refusal in place of one
abbrev pub IsDueOrRefused : Script → Run → Event → Type 0
IsDueOrRefused script run event = IsDue script run event ⊎ OfRefusal script run event

same_some : {A : Type 0} (x y : A) → Some x ≡ Some y → x ≡ y
same_some x y e = cc

-- of which program it is
pub refused_at : (script : Script) (run : Run) (event : Event) (pe : ℕ) (text : Text) (p : ProgramState) → event.pe.0 ≡ pe → slice_get script.programs pe ≡ Some text → program_of run.now pe ≡ Some p →
    OfRefusal script run event → IsRefused text run pe p event
refused_at script run event pe text p mine text_there there o =
    let at : o.pe ≡ pe = sym (ap (λ e. e.pe.0) o.refused.is) ∙ mine in
    let text_is : o.text ≡ text = same_some o.text text (sym o.at ∙ ap (slice_get script.programs) at ∙ text_there) in
    let p_is : o.p ≡ p = same_some o.p p (sym o.there ∙ ap (program_of run.now) at ∙ there) in
    subst (λ k. IsRefused text run k p event) at
    (subst (λ q. IsRefused text run o.pe q event) p_is (subst (λ t. IsRefused t run o.pe o.p event) text_is o.refused))

-- the refusal of the next event of a program
refused_after : (script : Script) (run : Run) (due event : Event) (pe : ℕ) (p : ProgramState) (s : Started) → program_of run.now pe ≡ Some p → p.started ≡ s →
    event_after script run pe p s ≡ Some due → IsDiskRefusal run.now due event → OfRefusal script run event
refused_after script run due event pe p begun.Nothing there nothing h r =
    let last : Text → Call → What → Option Event = λ program asked first. Some (event_of pe p.next_call first) in
    let b = bind_some (slice_get script.programs pe)
    (λ program. next_call program (replies_to run.before pe) >>= λ asked. first_event run.now.service run.now.rows p asked >>= last program asked) due h in
    let c = bind_some (next_call b.0 (replies_to run.before pe)) (λ asked. first_event run.now.service run.now.rows p asked >>= last b.0 asked) due b.2 in
    let d = bind_some (first_event run.now.service run.now.rows p c.0) (last b.0 c.0) due c.2 in
    let same : event_of pe p.next_call d.0 ≡ due = same_some (event_of pe p.next_call d.0) due d.2 in
    let made : call_made d.0 ≡ Some c.0 = (first_makes run.now.service run.now.rows p c.0 d.0 d.1).0 in
    let first_is : d.0 ≡ what.Meta r.asked r.given = ap (λ e. e.what) same ∙ r.asks in
    let asked_is : Some c.0 ≡ Some (call.Meta r.asked) = sym made ∙ ap call_made first_is in
    record {
      pe = pe;
      p = p;
      there = there;
      text = b.0;
      at = b.1;
      refused = record {
        nothing = nothing;
        asked = r.asked;
        due = c.1 ∙ asked_is;
        doubt = r.doubt;
        is = r.is ∙ ap (λ e. event_of e.pe.0 e.call (disk_refusal r.asked r.doubt)) (sym same);
      };
    }
refused_after script run due event pe p (begun.Operation c) there started h r =
    let b = bind_some (placed p c) (λ at. Some (event_of pe c (what.Answer (result at.operation)))) due h in
    let same : event_of pe c (what.Answer (result b.0.operation)) ≡ due = same_some (event_of pe c (what.Answer (result b.0.operation))) due b.2 in
    let no : what.Answer (result b.0.operation) ≡ what.Meta r.asked r.given = ap (λ e. e.what) same ∙ r.asks in cc
refused_after script run due event pe p (begun.Barrier c) there started h r =
    let same : event_of pe c (what.Answer reply.Passed) ≡ due = same_some (event_of pe c (what.Answer reply.Passed)) due h in
    let no : what.Answer reply.Passed ≡ what.Meta r.asked r.given = ap (λ e. e.what) same ∙ r.asks in cc

refused_of : (script : Script) (run : Run) (due event : Event) → IsDue script run due → IsDiskRefusal run.now due event → OfRefusal script run event
refused_of script run due event (inl o) r = refused_after script run due event o.pe o.p o.p.started o.there refl o.next r
refused_of script run due event (inr (inl o)) r =
    let given = due_answer run.now.rows run.now.memory o.p.who o.at.operation.kind o.left.piece in
    let no : what.Piece o.name.piece given ≡ what.Meta r.asked r.given = sym (ap (λ e. e.what) o.is) ∙ r.asks in cc
refused_of script run due event (inr (inr o)) r =
    let no : what.Lose o.name.piece ≡ what.Meta r.asked r.given = sym (ap (λ e. e.what) o.is) ∙ r.asks in cc

comes_as : (script : Script) (run : Run) (due event : Event) → IsDue script run due → Comes run.now due event → IsDueOrRefused script run event
comes_as script run due event is (inl same) = inl (subst (IsDue script run) (sym same) is)
comes_as script run due event is (inr r) = inr (refused_of script run due event is r)

-- what comes where the schedule has its next event is that one, or the refusal of a program's next call
pub comes_instead : (script : Script) (run : Run) (due event : Event) (words : Lcg) → next_step script run ≡ Some (due, words) → Comes run.now due event → IsDueOrRefused script run event
comes_instead script run due event words chosen comes = comes_as script run due event (comes_next script run (due, words) chosen) comes

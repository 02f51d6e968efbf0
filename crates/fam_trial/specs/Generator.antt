-- Scripts made from a seed.
use Rattle.std.specs.Prelude.{ℕ, zero, suc, ◌+◌, ◌*◌, ◌/◌, ◌%◌, true, false, pos, List, [], ◌∷◌, ◌++◌, map, replicate, slice_index_or, codes}
use Rattle.std.specs.Fmt.{decimal}
use Rattle.rand_pcg.specs.Lcg.{Lcg}
use Rattle.rand_pcg.specs.Pcg.{pcg32}
use Rattle.fam_schedule.specs.Schedule.{words_of}
use Rattle.fam_model.specs.declared.call.Width.TheVariants as width
use Rattle.fam_model.specs.declared.call.Op.TheVariants as op
use Rattle.fam_model.specs.declared.call.MetaCall.TheVariants as meta
use Rattle.fam_model.specs.declared.call.DataOp.TheVariants as data_op
use Rattle.fam_model.specs.declared.call.Call.{Call}
use Rattle.fam_model.specs.declared.call.Call.TheVariants as call
use Rattle.fam_model.specs.declared.script.Statement.{Statement}
use Rattle.fam_model.specs.declared.script.Statement.TheVariants as statement
use Rattle.fam_model.specs.declared.script.Program.{Program}
use Rattle.fam_model.specs.declared.script.Script.{Script}
use Rattle.fam_model.specs.Lists.{numbers_below}
use Rattle.fam_model.specs.ScriptText.{script_text}

-- words

-- the next words of a generator, so many
abbrev pub words_from : ℕ → Lcg → List ℕ
words_from zero generator = []
words_from (suc n) generator = (pcg32 generator).0 ∷ words_from n (pcg32 generator).1

-- the generator after so many words
abbrev pub after_words : ℕ → Lcg → Lcg
after_words zero generator = generator
after_words (suc n) generator = after_words n (pcg32 generator).1

-- the words of a program, where each one takes so many: those of the programs before it come first
abbrev pub words_of_program : ℕ → ℕ → ℕ → List ℕ
words_of_program seed calls pe = words_from calls (after_words (pe * calls) (words_of seed))

-- the call that a word gives

-- a plain addition
abbrev pub add : ℕ → ℕ → ℕ → Call
add item offset byte = call.Data 0 (data_op.Atomic item offset width.U64 op.Add (pos byte) (pos 0)) false

-- an addition that fetches
abbrev pub fetch_add : ℕ → ℕ → ℕ → Call
fetch_add item offset byte = call.Data 0 (data_op.Atomic item offset width.U64 op.FetchAdd (pos byte) (pos 0)) true

-- the eight kinds of call on an item at an offset, with one byte
abbrev pub kinds_of_call : ℕ → ℕ → ℕ → List Call
kinds_of_call item offset byte =
    call.Data 0 (data_op.Put item offset (byte ∷ [])) true
    ∷ call.Data 0 (data_op.Put item offset (replicate 8 byte)) false
    ∷ call.Data 0 (data_op.Get item offset 8) true
    ∷ call.Data 0 (data_op.Get item offset 8) false
    ∷ add item offset byte
    ∷ fetch_add item offset byte
    ∷ call.Fence 0
    ∷ call.Quiet 0
    ∷ []

-- the low bits of a word choose the kind; then come those of the offset, of the item and of the byte
abbrev pub made_call : ℕ → Call
made_call word =
    slice_index_or (kinds_of_call (word / 4096 % 2) (8 * (word / 8 % 512)) (word / 8192 % 256)) (word % 8) call.Barrier

-- the script

-- a program makes a region of its own
abbrev pub new_region : ℕ → Call
new_region pe = call.Meta (meta.CreateRegion 1 (codes "g" ++ decimal pe) 8192 448)

-- and an item in it
abbrev pub new_item : ℕ → Call
new_item pe = call.Meta (meta.Allocate 1 (codes "d" ++ decimal pe) 4096 384 1)

-- these two come first, then the calls of the words
abbrev pub made_calls : ℕ → List ℕ → List Call
made_calls pe words = new_region pe ∷ new_item pe ∷ (map made_call words ++ call.Quiet 0 ∷ [])

-- calls as statements
abbrev pub statements_of : List Call → List Statement
statements_of calls = map (λ asked. statement.One asked) calls

-- a program whose user is one more than its number
abbrev pub made_program : ℕ → List ℕ → Program
made_program pe words = record { who = record { uid = pe + 1; gid = 1 }; statements = statements_of (made_calls pe words) }

-- the programs, in order
abbrev pub made_programs : ℕ → ℕ → ℕ → List Program
made_programs seed programs calls = map (λ pe. made_program pe (words_of_program seed calls pe)) (numbers_below programs)

-- the script of a seed, for so many programs of so many calls
abbrev pub made_script : ℕ → ℕ → ℕ → Script
made_script seed programs calls =
    record {
      service = record { servers = 2; stripes = 2; unit = 64 };
      programs = made_programs seed programs calls;
      lines = 2 + programs * (calls + 5);
    }

-- the text of that script
abbrev pub made : ℕ → ℕ → ℕ → List ℕ
made seed programs calls = script_text (made_script seed programs calls)

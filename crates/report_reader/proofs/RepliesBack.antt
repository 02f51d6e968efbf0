-- Each reply is read back from its words.
use Rattle.std.proofs.Common.{◌≡◌, ℕ, true, not, List, [], ◌∷◌, ◌++◌, map, Option, Some, None, refl, sym, ap, ◌∙◌, append_assoc}
use Rattle.std.specs.Prelude.{◌==◌, ◌&&◌, codes, length, ℤ}
use Rattle.std.specs.List.{list_all, join_with_byte}
use Rattle.std.specs.Str.{bytes_eq}
use Rattle.std.specs.Fmt.{decimal}
use Rattle.std.proofs.lemmas.Bool.{leb-true}
use Rattle.fam_base.specs.Name.{is_between}
use Rattle.fam_base.specs.declared.error.FamError.{FamError}
use Rattle.fam_base.specs.declared.error.FamError.TheVariants as error
use Rattle.fam_base.specs.declared.naming.PeId.{PeId}
use Rattle.fam_base.specs.declared.naming.Descriptor.{Descriptor}
use Rattle.fam_model.specs.declared.call.Width.TheVariants.{I128}
use Rattle.fam_model.specs.declared.reply.ItemInfo.{ItemInfo}
use Rattle.fam_model.specs.declared.reply.RegionInfo.{RegionInfo}
use Rattle.fam_model.specs.declared.reply.OpResult.{OpResult}
use Rattle.fam_model.specs.declared.reply.PieceAnswer.{PieceAnswer}
use Rattle.fam_model.specs.declared.reply.PieceAnswer.TheVariants as answer
use Rattle.fam_model.specs.declared.reply.Reply.{Reply}
use Rattle.fam_model.specs.declared.reply.Reply.TheVariants as reply
use Rattle.fam_model.specs.declared.report.ReplyLine.{ReplyLine}
use Rattle.fam_model.specs.EventText.{call_name}
use Rattle.fam_model.specs.Lists.{◌>>=◌, when}
use Rattle.fam_model.specs.ReplyText.{error_words, answer_words, result_word, reply_words}
use Rattle.fam_model.specs.ReportText.{reply_line_text}
use Rattle.fam_model.specs.Shape.{is_name}
use Rattle.fam_model.specs.Values.{is_u32, is_u64, is_mode, error_fits, answer_fits, result_fits, reply_fits}
use Rattle.fam_model.specs.Words.{hex_text, mode_text}
use Rattle.fam_script.specs.Reading.{Words, parts, one_of, two_of, number_of, small_of, mode_of, or_else}
use Rattle.fam_script.proofs.Splits.{lacks, parts_back}
use Rattle.fam_script.proofs.Tests.{and_left, and_right, and_both, all_both, when_true, bytes_same}
use Rattle.fam_script.proofs.WordsBack.{is_printed, low_of, u64_back, small_back, mode_back, mode_printed, hex_back, signed_back, signed_printed, in_range_narrow}
use Rattle.report_reader.specs.Reading.{bare_answer, bare_reply, full_error_from, error_of, spoken_answer, answer_of, result_from, result_of, result_onto, results_of, item_from, region_stat_from, stat_from, long_reply, spoken_reply, reply_of, reply_line_from, loose_reply_line, reply_line_of}
use Rattle.report_reader.specs.Report.{reply_line_fits}
use Rattle.report_reader.proofs.Words.{both, are_plain, plain_printed, all_printed, all_lack_slash, all_lack_equals, plain_lacks_equals, decimal_plain, hex_plain, u32_low, low_32, two_back, name_back, name_printed, words_back, words_lack_feed}

-- a list with an element
abbrev pub HasWord : Words → Type 0
HasWord words = (w : List ℕ) × (ws : Words) × (words ≡ w ∷ ws)

pub not_one : (a : List ℕ) (words : Words) → HasWord words → one_of (a ∷ words) ≡ None
not_one a words h = ap (λ (ws : Words). one_of (a ∷ ws)) h.2

pub u64_plain : (n : ℕ) → is_u64 n ≡ true → are_plain (decimal n) ≡ true
u64_plain n e = decimal_plain n (low_of n e)

pub u64_printed : (n : ℕ) → is_u64 n ≡ true → is_printed (decimal n) ≡ true
u64_printed n e = plain_printed (decimal n) (u64_plain n e)

pub u32_printed : (n : ℕ) → is_u32 n ≡ true → is_printed (decimal n) ≡ true
u32_printed n e = plain_printed (decimal n) (decimal_plain n (low_32 n e))

pub number_is : (n : ℕ) → is_u64 n ≡ true → number_of (decimal n) ≡ Some n
number_is n e = u64_back n (low_of n e)

pub small_is : (n : ℕ) → is_u32 n ≡ true → small_of (decimal n) ≡ Some n
small_is n e = small_back n (u32_low n e)

-- errors

pub error_back : (e : FamError) → error_fits e ≡ true → error_of (error_words e) ≡ Some e
error_back error.Memory h = refl
error_back error.Absent h = refl
error_back error.NoPermission h = refl
error_back error.Range h = refl
error_back error.Unaligned h = refl
error_back error.Unsupported h = refl
error_back error.TooLarge h = refl
error_back error.NoSpace h = refl
error_back error.Exists h = refl
error_back error.BadName h = refl
error_back error.BadHandle h = refl
error_back error.InUse h = refl
error_back error.Budget h = refl
error_back (error.HistoryFull used need) h =
    let u = number_is used (and_left (is_u64 used) (is_u64 need) h) in
    let n = number_is need (and_right (is_u64 used) (is_u64 need) h) in
    λ i. full_error_from (codes "HistoryFull") (u i) (n i)
error_back (error.JournalFull used need) h =
    let u = number_is used (and_left (is_u64 used) (is_u64 need) h) in
    let n = number_is need (and_right (is_u64 used) (is_u64 need) h) in
    λ i. full_error_from (codes "JournalFull") (u i) (n i)
error_back error.DiskFault h = refl

pub error_plain : (e : FamError) → error_fits e ≡ true → list_all are_plain (error_words e) ≡ true
error_plain error.Memory h = refl
error_plain error.Absent h = refl
error_plain error.NoPermission h = refl
error_plain error.Range h = refl
error_plain error.Unaligned h = refl
error_plain error.Unsupported h = refl
error_plain error.TooLarge h = refl
error_plain error.NoSpace h = refl
error_plain error.Exists h = refl
error_plain error.BadName h = refl
error_plain error.BadHandle h = refl
error_plain error.InUse h = refl
error_plain error.Budget h = refl
error_plain (error.HistoryFull used need) h = both (u64_plain used (and_left (is_u64 used) (is_u64 need) h)) (both (u64_plain need (and_right (is_u64 used) (is_u64 need) h)) refl)
error_plain (error.JournalFull used need) h = both (u64_plain used (and_left (is_u64 used) (is_u64 need) h)) (both (u64_plain need (and_right (is_u64 used) (is_u64 need) h)) refl)
error_plain error.DiskFault h = refl

pub error_has_word : (e : FamError) → HasWord (error_words e)
error_has_word error.Memory = (_, _, refl)
error_has_word error.Absent = (_, _, refl)
error_has_word error.NoPermission = (_, _, refl)
error_has_word error.Range = (_, _, refl)
error_has_word error.Unaligned = (_, _, refl)
error_has_word error.Unsupported = (_, _, refl)
error_has_word error.TooLarge = (_, _, refl)
error_has_word error.NoSpace = (_, _, refl)
error_has_word error.Exists = (_, _, refl)
error_has_word error.BadName = (_, _, refl)
error_has_word error.BadHandle = (_, _, refl)
error_has_word error.InUse = (_, _, refl)
error_has_word error.Budget = (_, _, refl)
error_has_word (error.HistoryFull used need) = (_, _, refl)
error_has_word (error.JournalFull used need) = (_, _, refl)
error_has_word error.DiskFault = (_, _, refl)

-- answers

pub answer_back : (a : PieceAnswer) → answer_fits a ≡ true → answer_of (answer_words a) ≡ Some a
answer_back answer.Ok h = refl
answer_back (answer.Data bytes) h = ap (λ (o : Option (List ℕ)). o >>= λ found. Some (answer.Data found)) (hex_back bytes h)
answer_back (answer.Refused e) h =
    ap (λ (o : Option (List ℕ)). or_else (o >>= bare_answer) (spoken_answer (codes "error" ∷ error_words e))) (not_one (codes "error") (error_words e) (error_has_word e))
    ∙ ap (λ (o : Option FamError). o >>= λ found. Some (answer.Refused found)) (error_back e h)

pub answer_plain : (a : PieceAnswer) → answer_fits a ≡ true → list_all are_plain (answer_words a) ≡ true
answer_plain answer.Ok h = refl
answer_plain (answer.Data bytes) h = both (hex_plain bytes h) refl
answer_plain (answer.Refused e) h = error_plain e h

pub answer_has_word : (a : PieceAnswer) → HasWord (answer_words a)
answer_has_word answer.Ok = (_, _, refl)
answer_has_word (answer.Data bytes) = (_, _, refl)
answer_has_word (answer.Refused e) = (_, _, refl)

-- results

-- words joined with a slash lack what each of them lacks
slashes_lack : (w : List ℕ) (ws : Words) → list_all (lacks 61) (w ∷ ws) ≡ true → lacks 61 (join_with_byte 47 (w ∷ ws)) ≡ true
slashes_lack w [] e = and_left (lacks 61 w) true e
slashes_lack w (v ∷ ws) e =
    all_both (λ b. not (b == 61)) w (47 ∷ join_with_byte 47 (v ∷ ws)) (and_left (lacks 61 w) (list_all (lacks 61) (v ∷ ws)) e)
    (slashes_lack v ws (and_right (lacks 61 w) (list_all (lacks 61) (v ∷ ws)) e))

slashes_printed : (w : List ℕ) (ws : Words) → list_all is_printed (w ∷ ws) ≡ true → is_printed (join_with_byte 47 (w ∷ ws)) ≡ true
slashes_printed w [] e = and_left (is_printed w) true e
slashes_printed w (v ∷ ws) e =
    all_both (is_between 33 126) w (47 ∷ join_with_byte 47 (v ∷ ws)) (and_left (is_printed w) (list_all is_printed (v ∷ ws)) e)
    (slashes_printed v ws (and_right (is_printed w) (list_all is_printed (v ∷ ws)) e))

module _ (r : OpResult) (h : result_fits r ≡ true) where
  low : is_u64 r.call ≡ true
  low = and_left (is_u64 r.call) (answer_fits r.answer) h

  fits : answer_fits r.answer ≡ true
  fits = and_right (is_u64 r.call) (answer_fits r.answer) h

  told : List ℕ
  told = join_with_byte 47 (answer_words r.answer)

  told_lacks : lacks 61 (join_with_byte 47 (answer_words r.answer)) ≡ true
  told_lacks =
      let has = answer_has_word r.answer in
      ap (λ (ws : Words). lacks 61 (join_with_byte 47 ws)) has.2
      ∙ slashes_lack has.0 has.1 (ap (λ (ws : Words). list_all (lacks 61) ws) (sym has.2) ∙ all_lack_equals (answer_words r.answer) (answer_plain r.answer fits))

  told_printed : is_printed (join_with_byte 47 (answer_words r.answer)) ≡ true
  told_printed =
      let has = answer_has_word r.answer in
      ap (λ (ws : Words). is_printed (join_with_byte 47 ws)) has.2
      ∙ slashes_printed has.0 has.1 (ap (λ (ws : Words). list_all is_printed ws) (sym has.2) ∙ all_printed (answer_words r.answer) (answer_plain r.answer fits))

  told_split : parts 47 (join_with_byte 47 (answer_words r.answer)) ≡ answer_words r.answer
  told_split =
      let has = answer_has_word r.answer in
      ap (λ (ws : Words). parts 47 (join_with_byte 47 ws)) has.2
      ∙ parts_back 47 refl has.0 has.1 (ap (λ (ws : Words). list_all (lacks 47) ws) (sym has.2) ∙ all_lack_slash (answer_words r.answer) (answer_plain r.answer fits))
      ∙ sym has.2

  word_is : result_word r ≡ decimal r.call ++ (61 ∷ join_with_byte 47 (answer_words r.answer))
  word_is = append_assoc (decimal r.call) (61 ∷ []) (join_with_byte 47 (answer_words r.answer))

  pub result_back : result_of (result_word r) ≡ Some r
  result_back =
      let split = ap (parts 61) word_is ∙ two_back 61 refl (decimal r.call) (join_with_byte 47 (answer_words r.answer)) (plain_lacks_equals (decimal r.call) (u64_plain r.call low)) told_lacks in
      ap (λ (ws : Words). two_of ws >>= λ w. result_from (number_of w.0) (answer_of (parts 47 w.1))) split
      ∙ ap (λ (ws : Words). result_from (number_of (decimal r.call)) (answer_of ws)) told_split
      ∙ (λ i. result_from (number_is r.call low i) (answer_back r.answer fits i))

  pub result_printed : is_printed (result_word r) ≡ true
  result_printed =
      ap is_printed word_is
      ∙ all_both (is_between 33 126) (decimal r.call) (61 ∷ join_with_byte 47 (answer_words r.answer)) (u64_printed r.call low) told_printed

pub results_back : (rs : List OpResult) → list_all result_fits rs ≡ true → results_of (map result_word rs) ≡ Some rs
results_back [] h = refl
results_back (r ∷ rs) h =
    let first = result_back r (and_left (result_fits r) (list_all result_fits rs) h) in
    let others = results_back rs (and_right (result_fits r) (list_all result_fits rs) h) in
    λ i. result_onto (first i) (others i)

pub results_printed : (rs : List OpResult) → list_all result_fits rs ≡ true → list_all is_printed (map result_word rs) ≡ true
results_printed [] h = refl
results_printed (r ∷ rs) h =
    both (result_printed r (and_left (result_fits r) (list_all result_fits rs) h)) (results_printed rs (and_right (result_fits r) (list_all result_fits rs) h))

-- replies

pub name_is_printed : (name : List ℕ) → is_name name ≡ true → is_printed name ≡ true
name_is_printed name e = and_right (is_between 1 64 (length name)) (is_printed name) e

pub mode_is : (m : ℕ) → is_mode m ≡ true → mode_of (mode_text m) ≡ Some m
mode_is m e = mode_back m (leb-true m 511 e)

pub mode_is_printed : (m : ℕ) → is_mode m ≡ true → is_printed (mode_text m) ≡ true
mode_is_printed m e = mode_printed m (leb-true m 511 e)

-- an item's place
module _ (d : Descriptor) (h : reply_fits (reply.Item d) ≡ true) where
  three : (is_u64 d.item.0 && is_u64 d.region.0 && is_u64 d.base) ≡ true
  three = and_left (is_u64 d.item.0 && is_u64 d.region.0 && is_u64 d.base) (is_u64 d.size) h

  two : (is_u64 d.item.0 && is_u64 d.region.0) ≡ true
  two = and_left (is_u64 d.item.0 && is_u64 d.region.0) (is_u64 d.base) three

  i-fits : is_u64 d.item.0 ≡ true
  i-fits = and_left (is_u64 d.item.0) (is_u64 d.region.0) two

  r-fits : is_u64 d.region.0 ≡ true
  r-fits = and_right (is_u64 d.item.0) (is_u64 d.region.0) two

  b-fits : is_u64 d.base ≡ true
  b-fits = and_right (is_u64 d.item.0 && is_u64 d.region.0) (is_u64 d.base) three

  s-fits : is_u64 d.size ≡ true
  s-fits = and_right (is_u64 d.item.0 && is_u64 d.region.0 && is_u64 d.base) (is_u64 d.size) h

  item_back : reply_of (reply_words (reply.Item d)) ≡ Some (reply.Item d)
  item_back = λ i. or_else (item_from (number_is d.item.0 i-fits i) (number_is d.region.0 r-fits i) (number_is d.base b-fits i) (number_is d.size s-fits i)) None

  item_printed : list_all is_printed (reply_words (reply.Item d)) ≡ true
  item_printed = both (u64_printed d.item.0 i-fits) (both (u64_printed d.region.0 r-fits) (both (u64_printed d.base b-fits) (both (u64_printed d.size s-fits) refl)))

-- a region's row
module _ (row : RegionInfo) (h : reply_fits (reply.RegionStat row) ≡ true) where
  four : (is_name row.name && is_u64 row.size && is_u32 row.uid && is_u32 row.gid) ≡ true
  four = and_left (is_name row.name && is_u64 row.size && is_u32 row.uid && is_u32 row.gid) (is_mode row.mode) h

  m-fits : is_mode row.mode ≡ true
  m-fits = and_right (is_name row.name && is_u64 row.size && is_u32 row.uid && is_u32 row.gid) (is_mode row.mode) h

  to_uid : (is_name row.name && is_u64 row.size && is_u32 row.uid) ≡ true
  to_uid = and_left (is_name row.name && is_u64 row.size && is_u32 row.uid) (is_u32 row.gid) four

  g-fits : is_u32 row.gid ≡ true
  g-fits = and_right (is_name row.name && is_u64 row.size && is_u32 row.uid) (is_u32 row.gid) four

  to_size : (is_name row.name && is_u64 row.size) ≡ true
  to_size = and_left (is_name row.name && is_u64 row.size) (is_u32 row.uid) to_uid

  u-fits : is_u32 row.uid ≡ true
  u-fits = and_right (is_name row.name && is_u64 row.size) (is_u32 row.uid) to_uid

  n-fits : is_name row.name ≡ true
  n-fits = and_left (is_name row.name) (is_u64 row.size) to_size

  z-fits : is_u64 row.size ≡ true
  z-fits = and_right (is_name row.name) (is_u64 row.size) to_size

  region_stat_back : reply_of (reply_words (reply.RegionStat row)) ≡ Some (reply.RegionStat row)
  region_stat_back = λ i. region_stat_from row.name (number_is row.size z-fits i) (small_is row.uid u-fits i) (small_is row.gid g-fits i) (mode_is row.mode m-fits i)

  region_stat_printed : list_all is_printed (reply_words (reply.RegionStat row)) ≡ true
  region_stat_printed = both (name_is_printed row.name n-fits) (both (u64_printed row.size z-fits) (both (u32_printed row.uid u-fits) (both (u32_printed row.gid g-fits) (both (mode_is_printed row.mode m-fits) refl))))

-- an item's row
module _ (row : ItemInfo) (h : reply_fits (reply.ItemStat row) ≡ true) where
  to-gid : (is_name row.name && is_u64 row.region.0 && is_u64 row.base && is_u64 row.size && is_u32 row.uid && is_u32 row.gid) ≡ true
  to-gid = and_left (is_name row.name && is_u64 row.region.0 && is_u64 row.base && is_u64 row.size && is_u32 row.uid && is_u32 row.gid) (is_mode row.mode) h

  mode-fits : is_mode row.mode ≡ true
  mode-fits = and_right (is_name row.name && is_u64 row.region.0 && is_u64 row.base && is_u64 row.size && is_u32 row.uid && is_u32 row.gid) (is_mode row.mode) h

  to-uid : (is_name row.name && is_u64 row.region.0 && is_u64 row.base && is_u64 row.size && is_u32 row.uid) ≡ true
  to-uid = and_left (is_name row.name && is_u64 row.region.0 && is_u64 row.base && is_u64 row.size && is_u32 row.uid) (is_u32 row.gid) to-gid

  gid-fits : is_u32 row.gid ≡ true
  gid-fits = and_right (is_name row.name && is_u64 row.region.0 && is_u64 row.base && is_u64 row.size && is_u32 row.uid) (is_u32 row.gid) to-gid

  to-size : (is_name row.name && is_u64 row.region.0 && is_u64 row.base && is_u64 row.size) ≡ true
  to-size = and_left (is_name row.name && is_u64 row.region.0 && is_u64 row.base && is_u64 row.size) (is_u32 row.uid) to-uid

  uid-fits : is_u32 row.uid ≡ true
  uid-fits = and_right (is_name row.name && is_u64 row.region.0 && is_u64 row.base && is_u64 row.size) (is_u32 row.uid) to-uid

  to-base : (is_name row.name && is_u64 row.region.0 && is_u64 row.base) ≡ true
  to-base = and_left (is_name row.name && is_u64 row.region.0 && is_u64 row.base) (is_u64 row.size) to-size

  size-fits : is_u64 row.size ≡ true
  size-fits = and_right (is_name row.name && is_u64 row.region.0 && is_u64 row.base) (is_u64 row.size) to-size

  to-region : (is_name row.name && is_u64 row.region.0) ≡ true
  to-region = and_left (is_name row.name && is_u64 row.region.0) (is_u64 row.base) to-base

  base-fits : is_u64 row.base ≡ true
  base-fits = and_right (is_name row.name && is_u64 row.region.0) (is_u64 row.base) to-base

  name-fits : is_name row.name ≡ true
  name-fits = and_left (is_name row.name) (is_u64 row.region.0) to-region

  region-fits : is_u64 row.region.0 ≡ true
  region-fits = and_right (is_name row.name) (is_u64 row.region.0) to-region

  stat_back : reply_of (reply_words (reply.ItemStat row)) ≡ Some (reply.ItemStat row)
  stat_back = λ i. stat_from row.name (number_is row.region.0 region-fits i) (number_is row.base base-fits i) (number_is row.size size-fits i)
      (small_is row.uid uid-fits i) (small_is row.gid gid-fits i) (mode_is row.mode mode-fits i)

  stat_printed : list_all is_printed (reply_words (reply.ItemStat row)) ≡ true
  stat_printed = both (name_is_printed row.name name-fits) (both (u64_printed row.region.0 region-fits) (both (u64_printed row.base base-fits) (both (u64_printed row.size size-fits)
      (both (u32_printed row.uid uid-fits) (both (u32_printed row.gid gid-fits) (both (mode_is_printed row.mode mode-fits) refl))))))

pub reply_back : (r : Reply) → reply_fits r ≡ true → reply_of (reply_words r) ≡ Some r
reply_back reply.Done h = refl
reply_back reply.Issued h = refl
reply_back (reply.Bytes bytes) h = ap (λ (o : Option (List ℕ)). o >>= λ found. Some (reply.Bytes found)) (hex_back bytes h)
reply_back (reply.Region region) h = ap (λ (o : Option ℕ). or_else (o >>= λ n. Some (reply.Region (record { 0 = n }))) None) (number_is region.0 h)
reply_back (reply.Item d) h = item_back d h
reply_back (reply.RegionStat row) h = region_stat_back row h
reply_back (reply.ItemStat row) h = stat_back row h
reply_back (reply.Value z) h = ap (λ (o : Option ℤ). or_else (o >>= λ v. Some (reply.Value v)) None) (signed_back z (in_range_narrow I128 z h))
reply_back (reply.Report []) h = refl
reply_back (reply.Report (r ∷ rs)) h = ap (λ (o : Option (List OpResult)). o >>= λ found. Some (reply.Report found)) (results_back (r ∷ rs) h)
reply_back reply.Passed h = refl
reply_back reply.Left h = refl
reply_back reply.Crashed h = refl
reply_back (reply.Error e) h =
    ap (λ (o : Option (List ℕ)). or_else (o >>= bare_reply) (spoken_reply (codes "error" ∷ error_words e))) (not_one (codes "error") (error_words e) (error_has_word e))
    ∙ ap (λ (o : Option FamError). or_else (o >>= λ found. Some (reply.Error found)) (long_reply (codes "error") (error_words e))) (error_back e h)

pub reply_printed : (r : Reply) → reply_fits r ≡ true → list_all is_printed (reply_words r) ≡ true
reply_printed reply.Done h = refl
reply_printed reply.Issued h = refl
reply_printed (reply.Bytes bytes) h = both (plain_printed (hex_text bytes) (hex_plain bytes h)) refl
reply_printed (reply.Region region) h = both (u64_printed region.0 h) refl
reply_printed (reply.Item d) h = item_printed d h
reply_printed (reply.RegionStat row) h = region_stat_printed row h
reply_printed (reply.ItemStat row) h = stat_printed row h
reply_printed (reply.Value z) h = both (signed_printed z (in_range_narrow I128 z h)) refl
reply_printed (reply.Report results) h = results_printed results h
reply_printed reply.Passed h = refl
reply_printed reply.Left h = refl
reply_printed reply.Crashed h = refl
reply_printed (reply.Error e) h = all_printed (error_words e) (error_plain e h)

-- reply lines

module _ (told : ReplyLine) (h : reply_line_fits told ≡ true) where
  numbers : (is_u32 told.pe.0 && is_u64 told.call) ≡ true
  numbers = and_left (is_u32 told.pe.0 && is_u64 told.call) (reply_fits told.reply) h

  pe-fits : is_u32 told.pe.0 ≡ true
  pe-fits = and_left (is_u32 told.pe.0) (is_u64 told.call) numbers

  call-fits : is_u64 told.call ≡ true
  call-fits = and_right (is_u32 told.pe.0) (is_u64 told.call) numbers

  given-fits : reply_fits told.reply ≡ true
  given-fits = and_right (is_u32 told.pe.0 && is_u64 told.call) (reply_fits told.reply) h

  line_printed : list_all is_printed (call_name told.pe told.call ∷ reply_words told.reply) ≡ true
  line_printed = both (name_printed told.pe told.call pe-fits call-fits) (reply_printed told.reply given-fits)

  loose_back : loose_reply_line (parts 32 (reply_line_text told)) ≡ Some told
  loose_back =
      ap loose_reply_line (words_back (call_name told.pe told.call) (reply_words told.reply) line_printed)
      ∙ ap (λ (o : Option (PeId × ℕ)). o >>= λ n. reply_line_from n (reply_of (reply_words told.reply))) (name_back told.pe told.call pe-fits call-fits)
      ∙ ap (reply_line_from (told.pe, told.call)) (reply_back told.reply given-fits)

  pub reply_line_back : reply_line_of (reply_line_text told) ≡ Some told
  reply_line_back =
      ap (λ (o : Option ReplyLine). o >>= λ found. when (reply_line_fits found && bytes_eq (reply_line_text found) (reply_line_text told)) found) loose_back
      ∙ when_true (reply_line_fits told && bytes_eq (reply_line_text told) (reply_line_text told)) told
      (and_both (reply_line_fits told) (bytes_eq (reply_line_text told) (reply_line_text told)) h (bytes_same (reply_line_text told) (reply_line_text told) refl))

  pub reply_line_lacks_feed : lacks 10 (reply_line_text told) ≡ true
  reply_line_lacks_feed = words_lack_feed (call_name told.pe told.call) (reply_words told.reply) line_printed

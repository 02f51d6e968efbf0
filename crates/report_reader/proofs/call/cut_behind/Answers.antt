use Rattle.std.proofs.Common.{take}
use Rattle.fam_model.specs.Words.{words_text}
use Rattle.fam_script.specs.Reading.{parts}
use Rattle.report_reader.proofs.Cutting.{front_split}
use Rattle.report_reader.proofs.call.cut_behind.Goals as goal

pub returns : goal.returns
returns c =
    let text = c.args.text.now in
    let n = c.args.count in
    let cut = c.in-Some.ensures in
    (cut.0, c.in_front.ensures (words_text (take n (parts 32 text))) (front_split text c.in-Some.rest.now n (record { words = cut.0; front = cut.1 }) c.requires))

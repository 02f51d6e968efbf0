-- A change that was chosen is lawful.
use Rattle.std.proofs.Common.{◌≡◌, ◌<◌, ◌≤◌, true, Result, Ok, Err, IfOk}
use Rattle.fam_base.specs.declared.error.FamError.{FamError}
use Rattle.fam_base.specs.declared.naming.Who.{Who}
use Rattle.fam_model.specs.declared.change.Change.{Change}
use Rattle.fam_model.specs.declared.request.Request.{Request}
use Rattle.fam_model.specs.declared.rows.Rows.{Rows}
use Rattle.fam_model.specs.Directory.{refusal, first_base, first_choice, change_at}
use Rattle.fam_model.specs.Lawful.{is_lawful_change}
use Rattle.fam_model.specs.Limits.{nobody}
use Rattle.fam_model.specs.Rows.{IsLawful}
use Rattle.fam_rows.specs.Laws.{asked_mode}
use Rattle.fam_rows.proofs.Least.{first_lies}
use Rattle.fam_rows.proofs.Served.{served_lawful}
use Rattle.fam_rows.proofs.Standing.{came_of}
use Rattle.fam_directory.specs.Answers.{IsMade}

pub chosen_lawful : (rows : Rows) (who : Who) (request : Request) (r : Result Change FamError) → IsLawful rows → who.uid < nobody → asked_mode request ≤ 511 → IsMade (refusal rows who request) (first_choice rows who request) r → IfOk r (λ chosen. is_lawful_change rows chosen ≡ true)
chosen_lawful rows who request (Ok chosen) lawful user modest made =
    let came = came_of (first_base rows request) (λ base. change_at rows who request base) chosen made.1 in
    served_lawful rows who request came.0 chosen lawful user modest made.0 (first_lies rows request came.0 came.1) came.2
chosen_lawful rows who request (Err error) lawful user modest made = tt

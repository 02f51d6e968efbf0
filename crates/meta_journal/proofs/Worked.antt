-- Worked journals, computed.
use Rattle.std.proofs.Common.{◌≡◌, [], ◌∷◌, take, refl}
use Rattle.std.specs.Prelude.{Err, codes}
use Rattle.meta_codec.specs.Reading.{number_at, passing, bytes_at, whole, create_region_at}
use Rattle.meta_journal.specs.Reading.{body_at, change_at}
use Rattle.meta_journal.specs.Worked.{region, one_region, reads, long_name, contents}

pub is_read : reads (one_region 2 0 1 1 (codes "a")) ≡ contents (region 1 (codes "a") ∷ []) 50
unfolding number_at passing bytes_at whole create_region_at body_at change_at
is_read = refl

pub cut_short : reads (take 50 (one_region 2 0 1 1 (codes "a"))) ≡ Err 16
unfolding number_at passing bytes_at whole create_region_at body_at change_at
cut_short = refl

pub other_kind : reads (one_region 2 0 1 9 (codes "a")) ≡ Err 16
unfolding number_at passing bytes_at whole create_region_at body_at change_at
other_kind = refl

pub first_version : reads (one_region 1 0 1 1 (codes "a")) ≡ contents (region 1 (codes "a") ∷ []) 50
unfolding number_at passing bytes_at whole create_region_at body_at change_at
first_version = refl

pub long_name_in_second : reads (one_region 2 0 1 1 long_name) ≡ contents (region 1 long_name ∷ []) 82
unfolding number_at passing bytes_at whole create_region_at body_at change_at
long_name_in_second = refl

pub long_name_in_first : reads (one_region 1 0 1 1 long_name) ≡ Err 16
unfolding number_at passing bytes_at whole create_region_at body_at change_at
long_name_in_first = refl

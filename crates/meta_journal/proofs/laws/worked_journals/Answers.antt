use Rattle.std.proofs.Common.{refl}
use Rattle.meta_journal.proofs.Worked.{is_read, cut_short, other_kind, first_version, long_name_in_second, long_name_in_first}
use Rattle.meta_journal.proofs.laws.worked_journals.Goals as goal

pub returns : goal.returns
returns c =
    record {
      its_length = refl;
      is_read = is_read;
      closed_gate = refl;
      cut_short = cut_short;
      other_kind = other_kind;
      no_second_area = refl;
      first_version = first_version;
      long_name_in_second = long_name_in_second;
      long_name_in_first = long_name_in_first;
      short_of_second = refl;
      short_ends = refl;
    }

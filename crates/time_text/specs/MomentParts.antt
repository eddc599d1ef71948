-- The date and the time of day of a moment: X.680, section 46.
use Rattle.std.specs.Prelude.{ℕ, ◌/◌, ◌%◌}
use Rattle.term_values.specs.Moment.{date_from}
use Rattle.time_text.specs.declared.parts.Parts.{Parts}

-- the parts of so many seconds since 1970, up to the end of the year 9998
abbrev pub parts_of : ℕ → Parts
parts_of seconds =
    let date = date_from 8029 1970 (seconds / 86400) in
    record {
      year = date.year;
      month = date.month;
      day = date.day;
      hour = seconds % 86400 / 3600;
      minute = seconds % 3600 / 60;
      second = seconds % 60;
    }

-- Dates and times (RFC 3339, section 5.6).
use Rattle.std.specs.Prelude.{ℕ, ◌+◌, ◌-◌, ◌*◌, ◌%◌, Bool, true, false, ◌&&◌, ◌||◌, ◌==◌, nat_le, not, List, [], ◌∷◌}
use Rattle.std.specs.Prelude.{Option, Some, None, option_map, cond, codes, take, drop}
use Rattle.std.specs.Char.{is_ascii_digit}
use Rattle.text_formats.specs.Form.{has_form, two}
use Rattle.text_formats.specs.Letters.{begins, is_empty, is_not_digit}
use Rattle.text_uri.specs.Letters.{from}

-- the leap years of the Gregorian calendar (appendix C)
abbrev pub is_leap : ℕ → Bool
is_leap year = (year % 4 == 0) && (not (year % 100 == 0) || (year % 400 == 0))

-- the last day of a month (section 5.7)
abbrev pub days_in_month : ℕ → ℕ → ℕ
days_in_month year month = cond (month == 2) (cond (is_leap year) 29 28)
    (cond ((month == 4) || ((month == 6) || ((month == 9) || (month == 11)))) 30 31)

abbrev pub is_day : ℕ → ℕ → ℕ → Bool
is_day year month day = (nat_le 1 month && nat_le month 12) && (nat_le 1 day && nat_le day (days_in_month year month))

-- `full-date`
abbrev pub is_date : List ℕ → Bool
is_date text = has_form (codes "0000-00-00") text && is_day (100 * two 0 text + two 2 text) (two 5 text) (two 8 text)

-- what follows `time-secfrac`, if that is there: a point and digits
abbrev pub after_fraction : List ℕ → List ℕ
after_fraction [] = []
after_fraction (c ∷ cs) = cond ((c == 46) && begins is_ascii_digit cs) (from is_not_digit cs) (c ∷ cs)

-- the minutes of an offset
abbrev pub minutes : List ℕ → Option ℕ
minutes text = cond (has_form (codes "00:00") text && (nat_le (two 0 text) 23 && nat_le (two 3 text) 59))
    (Some (60 * two 0 text + two 3 text)) None

-- `time-offset`, as the minutes that UTC is ahead, and a day
abbrev pub ahead : List ℕ → Option ℕ
ahead [] = None
ahead (c ∷ cs) = cond (c == 43) (option_map (λ m. 1440 - m) (minutes cs))
    (cond (c == 45) (option_map (λ m. 1440 + m) (minutes cs)) (cond (((c == 90) || (c == 122)) && is_empty cs) (Some 1440) None))

-- The second 60 is a leap second (section 5.7): 23:59:60 in UTC of the day before, or of this one, if that day may have one. The
-- minute is counted from the beginning of the day before.
abbrev pub is_second : Bool → Bool → ℕ → ℕ → Bool
is_second before this second minute = nat_le second 59
    || ((second == 60) && (((minute == 1439) && before) || ((minute == 2879) && this)))

-- `full-time` of a clock and an offset
abbrev pub is_clock : Bool → Bool → List ℕ → Option ℕ → Bool
is_clock before this clock None = false
is_clock before this clock (Some ahead) = has_form (codes "00:00:00") clock && ((nat_le (two 0 clock) 23 && nat_le (two 3 clock) 59)
    && is_second before this (two 6 clock) (60 * two 0 clock + two 3 clock + ahead))

abbrev pub is_time_on : Bool → Bool → List ℕ → Bool
is_time_on before this text = is_clock before this (take 8 text) (ahead (after_fraction (drop 8 text)))

abbrev pub is_time : List ℕ → Bool
is_time text = is_time_on true true text

abbrev pub is_time_after : Bool → Bool → List ℕ → Bool
is_time_after before this [] = false
is_time_after before this (c ∷ cs) = ((c == 84) || (c == 116)) && is_time_on before this cs

-- the day is the last of its month
abbrev pub is_last_day : List ℕ → Bool
is_last_day date = two 8 date == days_in_month (100 * two 0 date + two 2 date) (two 5 date)

-- `date-time`: a leap second is at the end of a month, so the day before is the last of one if this is the first
abbrev pub is_date_time : List ℕ → Bool
is_date_time text = is_date (take 10 text)
    && is_time_after (two 8 (take 10 text) == 1) (is_last_day (take 10 text)) (drop 10 text)

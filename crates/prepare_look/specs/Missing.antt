-- Marks for missing values that are known without being asked for.
use Rattle.std.specs.Prelude.{◌||◌, ℕ, Bool, List, codes}
use Rattle.std.specs.Str.{bytes_eq}

abbrev pub is_signs : List ℕ → Bool
is_signs f =
    bytes_eq f (codes "-") || bytes_eq f (codes "--") || bytes_eq f (codes ".") || bytes_eq f (codes "?")
    || bytes_eq f (codes "#N/A")

abbrev pub is_letters : List ℕ → Bool
is_letters f =
    bytes_eq f (codes "NA") || bytes_eq f (codes "N/A") || bytes_eq f (codes "n/a") || bytes_eq f (codes "NaN")
    || bytes_eq f (codes "nan")

abbrev pub is_word : List ℕ → Bool
is_word f =
    bytes_eq f (codes "NULL") || bytes_eq f (codes "null") || bytes_eq f (codes "None") || bytes_eq f (codes "none")

-- A MARK FOR A MISSING VALUE
abbrev pub is_missing : List ℕ → Bool
is_missing f = is_signs f || is_letters f || is_word f

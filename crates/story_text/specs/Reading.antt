-- What is read of a text: words between marks, entries by their word, and the first line that is no entry's.
use Rattle.std.specs.Prelude.{◌≡◌, ◌≢◌, ◌==◌, ◌+◌, ◌-◌, ◌*◌, ◌^◌, ◌<◌, not, true, ℕ, Bool, List}
use Rattle.std.specs.Prelude.{[], ◌∷◌, ◌++◌, Option, None, Some, length, codes, if◌then◌else◌}
use Rattle.std.specs.List.{list_all, AllByRecursion}
use Rattle.std.specs.Option.{option_map}
use Rattle.std.specs.Str.{bytes_eq}
use Rattle.scan_story.specs.declared.entry.Why.{Why}
use Rattle.scan_story.specs.declared.entry.Why.TheVariants.{Fault, Damage}
use Rattle.scan_story.specs.declared.entry.Entry.{Entry}
use Rattle.scan_story.specs.declared.entry.Entry.TheVariants.{Register, Plan, Evict, Fill, Filled}
use Rattle.scan_story.specs.declared.entry.Entry.TheVariants.{Failed, Deliver, Release, Stop, End}
use Rattle.story_text.specs.declared.read.StoryRefusal.{StoryRefusal}
use Rattle.story_text.specs.declared.read.StoryRefusal.TheVariants.{BadLine, Memory}
use Rattle.story_text.specs.Text.{entry_text, story_text}

-- Numbers of an entry are of 32 bits, counts of faults of 64

abbrev pub FitsWhy : Why → Type 0
FitsWhy (Fault before after) = (before < 2 ^ 64) × (after < 2 ^ 64)
FitsWhy (Damage word) = word < 2 ^ 32

abbrev pub Fits : Entry → Type 0
Fits (Register w q) = (w < 2 ^ 32) × (q < 2 ^ 32)
Fits (Plan w q c) = (w < 2 ^ 32) × (q < 2 ^ 32) × (c < 2 ^ 32)
Fits (Evict w c) = (w < 2 ^ 32) × (c < 2 ^ 32)
Fits (Fill w f p) = (w < 2 ^ 32) × (f < 2 ^ 32) × (p < 2 ^ 32)
Fits (Filled w f p) = (w < 2 ^ 32) × (f < 2 ^ 32) × (p < 2 ^ 32)
Fits (Failed w q p why) = (w < 2 ^ 32) × (q < 2 ^ 32) × (p < 2 ^ 32) × FitsWhy why
Fits (Deliver w q c) = (w < 2 ^ 32) × (q < 2 ^ 32) × (c < 2 ^ 32)
Fits (Release w q c) = (w < 2 ^ 32) × (q < 2 ^ 32) × (c < 2 ^ 32)
Fits (Stop w q) = (w < 2 ^ 32) × (q < 2 ^ 32)
Fits (End w q) = (w < 2 ^ 32) × (q < 2 ^ 32)

-- the number that bytes make, where they are digits
abbrev pub number_from : ℕ → List ℕ → ℕ
number_from n [] = n
number_from n (b ∷ bs) = number_from (n * 10 + (b - 48)) bs

abbrev pub number_of : List ℕ → ℕ
number_of word = number_from 0 word

-- no byte is the mark
abbrev pub lacks : ℕ → List ℕ → Bool
lacks mark bytes = list_all (λ b. not (b == mark)) bytes

-- the bytes are a word without the mark, the mark, and the rest
pub record IsCut (mark : ℕ) (bytes word rest : List ℕ) : Type 0 where
  pub first : lacks mark word ≡ true
  pub joined : bytes ≡ word ++ mark ∷ rest

-- the option has the entry whose text the line is, or there is none
abbrev pub IsEntryOf : List ℕ → Option Entry → Type 0
IsEntryOf line None = (e : Entry) → Fits e → entry_text e ≢ line
IsEntryOf line (Some e) = Fits e × (entry_text e ≡ line)

-- the text is not empty, and begins with no entry's line
pub record BeginsBadly (text : List ℕ) : Type 0 where
  pub more : text ≢ []
  pub no_line : (e : Entry) (rest : List ℕ) → Fits e → text ≢ entry_text e ++ 10 ∷ rest

-- the lines before the line with this number are entries', and that line isn't
pub record IsFirstBad (bytes : List ℕ) (line : ℕ) : Type 0 where
  pub entries : List Entry
  pub fit : AllByRecursion Fits entries
  pub rest : List ℕ
  pub joined : bytes ≡ story_text entries ++ rest
  pub number : length entries + 1 ≡ line
  pub bad : BeginsBadly rest

-- a bad line is the first one; out of memory may always be answered
abbrev pub IsRefusal : List ℕ → StoryRefusal → Type 0
IsRefusal bytes (BadLine line) = IsFirstBad bytes line
IsRefusal bytes Memory = Unit {0}

-- What an entry's word and the numbers behind it make

abbrev pub pair_entry : List ℕ → Option (ℕ × ℕ) → Option Entry
pair_entry word pair =
    if bytes_eq word (codes "register") then option_map (λ n. Register n.0 n.1) pair
    else (if bytes_eq word (codes "evict") then option_map (λ n. Evict n.0 n.1) pair
    else (if bytes_eq word (codes "stop") then option_map (λ n. Stop n.0 n.1) pair
    else (if bytes_eq word (codes "end") then option_map (λ n. End n.0 n.1) pair
    else None)))

abbrev pub triple_entry : List ℕ → Option (ℕ × (ℕ × ℕ)) → Option Entry
triple_entry word triple =
    if bytes_eq word (codes "plan") then option_map (λ n. Plan n.0 n.1.0 n.1.1) triple
    else (if bytes_eq word (codes "fill") then option_map (λ n. Fill n.0 n.1.0 n.1.1) triple
    else (if bytes_eq word (codes "filled") then option_map (λ n. Filled n.0 n.1.0 n.1.1) triple
    else (if bytes_eq word (codes "deliver") then option_map (λ n. Deliver n.0 n.1.0 n.1.1) triple
    else (if bytes_eq word (codes "release") then option_map (λ n. Release n.0 n.1.0 n.1.1) triple
    else None))))

abbrev pub failed_entry : List ℕ → Option (ℕ × (ℕ × (ℕ × Why))) → Option Entry
failed_entry word parts =
    if bytes_eq word (codes "failed") then option_map (λ n. Failed n.0 n.1.0 n.1.1.0 n.1.1.1) parts else None

abbrev pub why_read : List ℕ → Option (ℕ × ℕ) → Option ℕ → Option Why
why_read word counts place =
    if bytes_eq word (codes "fault") then option_map (λ n. Fault n.0 n.1) counts
    else (if bytes_eq word (codes "damage") then option_map (λ n. Damage n) place else None)

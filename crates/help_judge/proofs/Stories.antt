-- The settings and lists of the worked examples.
use Rattle.std.proofs.Common.{ℕ, List, [], ◌∷◌, ◌++◌}
use Rattle.scan_story.specs.declared.setting.PolicyName.{PolicyName}
use Rattle.scan_story.specs.declared.setting.PolicyName.TheVariants.{Relevance}
use Rattle.scan_story.specs.declared.entry.Why.TheVariants.{Fault}
use Rattle.scan_story.specs.declared.setting.Need.{Need}
use Rattle.scan_story.specs.declared.setting.Setting.{Setting}
use Rattle.scan_story.specs.declared.entry.Entry.{Entry}
use Rattle.scan_story.specs.declared.entry.Entry.TheVariants.{Register, Plan, Evict, Fill, Filled, Failed, Deliver, Release, End}
use Rattle.scan_story.specs.Setting.{first_cursor}

abbrev pub need : ℕ → ℕ → List ℕ → List ℕ → Need
need q w cs gs = record { query = q; worker = w; chunks = cs; columns = gs }

abbrev pub setting : PolicyName → List Need → ℕ → ℕ → ℕ → ℕ → Setting
setting name ns chunks workers frames groups = record { needs = ns; chunks = chunks; workers = workers; frames = frames; groups = groups; policy = name; cursor = first_cursor name }

-- a load of chunk c into frame f, with one group
abbrev pub load_into : ℕ → ℕ → ℕ → ℕ → List Entry
load_into w q c f = Plan w q c ∷ Fill w f c ∷ Filled w f c ∷ []

-- the same, after chunk e was evicted from that frame
abbrev pub load_over : ℕ → ℕ → ℕ → ℕ → ℕ → List Entry
load_over w q c e f = Plan w q c ∷ Evict w e ∷ Fill w f c ∷ Filled w f c ∷ []

abbrev pub takes : ℕ → ℕ → ℕ → List Entry
takes w q c = Deliver w q c ∷ Release w q c ∷ []

-- the trace of one count
abbrev pub one_count : Setting
one_count = setting Relevance (need 1 0 (0 ∷ 1 ∷ 2 ∷ []) [] ∷ []) 3 1 4 1

abbrev pub one_count_story : List Entry
one_count_story =
    Register 0 1 ∷ load_into 0 1 0 0 ++ takes 0 1 0 ++ load_into 0 1 1 1 ++ takes 0 1 1 ++ load_into 0 1 2 2 ++ takes 0 1 2 ++ (End 0 1 ∷ [])

-- a read fault stops one of two counts
abbrev pub two_counts : Setting
two_counts = setting Relevance (need 1 0 (0 ∷ 1 ∷ 2 ∷ []) [] ∷ need 2 0 (0 ∷ 1 ∷ 2 ∷ []) [] ∷ []) 3 1 4 1

abbrev pub fault_story : List Entry
fault_story =
    Register 0 1 ∷ load_into 0 1 0 0 ++ takes 0 1 0 ++ (Plan 0 1 1 ∷ Fill 0 1 1 ∷ Failed 0 1 1 (Fault 0 1) ∷ [])
    ++ (Register 0 2 ∷ []) ++ takes 0 2 0 ++ load_into 0 2 1 1 ++ takes 0 2 1 ++ load_into 0 2 2 2 ++ takes 0 2 2 ++ (End 0 2 ∷ [])

-- two counts share the reads of a six-chunk table
abbrev pub six : List ℕ
six = 0 ∷ 1 ∷ 2 ∷ 3 ∷ 4 ∷ 5 ∷ []

abbrev pub six_chunks : PolicyName → Setting
six_chunks name = setting name (need 1 0 six [] ∷ need 2 0 six [] ∷ []) 6 1 4 1

abbrev pub first_four : List Entry
first_four =
    Register 0 1 ∷ load_into 0 1 0 0 ++ takes 0 1 0 ++ load_into 0 1 1 1 ++ takes 0 1 1 ++ load_into 0 1 2 2 ++ takes 0 1 2 ++ load_into 0 1 3 3 ++ takes 0 1 3

abbrev pub six_story : List Entry
six_story =
    first_four ++ load_over 0 1 4 0 0 ++ takes 0 1 4 ++ load_over 0 1 5 1 1 ++ takes 0 1 5 ++ (End 0 1 ∷ Register 0 2 ∷ [])
    ++ takes 0 2 2 ++ takes 0 2 3 ++ takes 0 2 4 ++ takes 0 2 5 ++ load_over 0 2 0 2 2 ++ takes 0 2 0 ++ load_over 0 2 1 0 2 ++ takes 0 2 1 ++ (End 0 2 ∷ [])

-- the desk loads for the shorter query
abbrev pub shorter : PolicyName → Setting
shorter name = setting name (need 1 0 (0 ∷ 1 ∷ 2 ∷ []) [] ∷ need 2 1 (2 ∷ []) [] ∷ []) 3 2 7 1

abbrev pub both : List Entry
both = Register 0 1 ∷ Register 1 2 ∷ []

-- the victim that nobody needs: a full buffer of nine chunks
abbrev pub full : Setting
full = setting Relevance (need 1 0 (0 ∷ 1 ∷ 2 ∷ 7 ∷ []) [] ∷ need 2 1 (2 ∷ 3 ∷ 4 ∷ 5 ∷ 6 ∷ 8 ∷ []) [] ∷ []) 9 2 7 1

abbrev pub filled_up : List Entry
filled_up =
    both ++ load_into 0 1 0 0 ++ load_into 0 1 1 1 ++ load_into 1 2 2 2 ++ takes 1 2 2 ++ load_into 1 2 3 3 ++ load_into 1 2 4 4 ++ takes 1 2 3
    ++ load_into 1 2 5 5 ++ takes 1 2 4 ++ load_into 1 2 6 6 ++ (Deliver 1 2 5 ∷ Plan 0 2 8 ∷ [])

-- the desk in the column layout
abbrev pub columns : Setting
columns = setting Relevance (need 1 0 (0 ∷ 1 ∷ []) (0 ∷ []) ∷ need 2 1 (1 ∷ 2 ∷ []) (0 ∷ 1 ∷ []) ∷ []) 3 2 14 2

-- Pieces and chunks, and the needs of a setting.
use Rattle.std.proofs.Common.{◌≡◌, ◌<◌, ◌≤◌, ◌+◌, ◌*◌, ◌∷◌, [], ◌==◌, ◌||◌, ℕ, true, false, cond, if◌then◌else◌, List, length, map, find, Option, None, Some, refl, sym, ◌∙◌, ap, subst, arith, inl, inr}
use Rattle.std.proofs.lemmas.List.{length-map}
use Rattle.std.proofs.lemmas.Nat.{div-mul-add}
use Rattle.std.specs.List.{AllByRecursion}
use Rattle.scan_story.specs.declared.setting.Need.{Need}
use Rattle.scan_story.specs.declared.setting.Setting.{Setting}
use Rattle.scan_story.specs.Counting.{has}
use Rattle.scan_story.specs.Setting.{AreColumns, IsNeed, IsRising, IsSetting, asks_for, chunk_of, chunks_in, columns_in, groups_read, need_of, piece_at, pieces_read, worker_in, worker_of}
use Rattle.story_laws.specs.Lists.{NoneTwice}
use Rattle.story_laws.proofs.Bools.{either, if_not, none_some, not_both, or_right, same_number, same_some, unequal}
use Rattle.story_laws.proofs.Lists.{all_below_at, here, length_below, rising_once}

-- what a query reads of a chunk are pieces of that chunk, none twice, and a chunk has its own pieces alone
pub record Grouped (s : Setting) : Type 0 where
  pub some : 0 < s.groups
  pub read : (q c p : ℕ) → has (pieces_read s q c) p ≡ true → chunk_of s p ≡ c
  pub own : (c g : ℕ) → g < s.groups → chunk_of s (piece_at s c g) ≡ c
  pub once : (q c : ℕ) → NoneTwice (pieces_read s q c)
  pub few : (q c : ℕ) → length (pieces_read s q c) ≤ s.groups

has_map : (f : ℕ → ℕ) (xs : List ℕ) (p : ℕ) → has (map f xs) p ≡ true → (x : ℕ) × (has xs x ≡ true) × (f x ≡ p)
has_map f [] p e = absurd (not_both false e refl)
has_map f (x ∷ xs) p e =
    either (f x == p) (has (map f xs) p) e (λ t. (x, here x (has xs x), same_number (f x) p t)) (λ t. (let r = has_map f xs p t in (r.0, or_right (x == r.0) (has xs r.0) r.1, r.2)))

once_map : (a : ℕ) (xs : List ℕ) → NoneTwice xs → NoneTwice (map (λ g. a + g) xs)
once_map a [] d = tt
once_map a (x ∷ xs) d =
    (if_not (has (map (λ g. a + g) xs) (a + x)) (λ e. (let r = has_map (λ g. a + g) xs (a + x) e in let same : r.0 ≡ x = omega (arith, r.2) in not_both (has xs x) (ap (has xs) (sym same) ∙ r.1) d.0)), once_map a xs d.1)

-- groups that are read: below the number of groups, none twice
abbrev AreGroups : ℕ → List ℕ → Type 0
AreGroups n gs = ((g : ℕ) → has gs g ≡ true → g < n) × NoneTwice gs

column_groups : (n : ℕ) (gs : List ℕ) → (n == 1) ≡ false → AreColumns n gs → IsRising gs → AreGroups n gs
column_groups n gs many (inl one) rise = absurd (unequal n 1 many one)
column_groups n gs many (inr all) rise = (λ g e. all_below_at n gs g all.1 e, rising_once gs rise)

found_groups : (s : Setting) (q : ℕ) (ns : List Need) → (s.groups == 1) ≡ false → AllByRecursion (IsNeed s) ns → AreGroups s.groups (columns_in (find (λ n. n.query == q) ns))
found_groups s q [] many all = (λ g e. absurd (not_both false e refl), tt)
found_groups s q (n ∷ ns) many all =
    elim (n.query == q) as (λ t. AreGroups s.groups (columns_in (cond t (Some n) (find (λ m. m.query == q) ns)))) [
      | true ↦ column_groups s.groups n.columns many all.0.columns all.0.columns_rise
      | false ↦ found_groups s q ns many all.1
    ]

only_zero : (n g : ℕ) → 0 < n → ((0 == g) || false) ≡ true → g < n
only_zero n g some e = either (0 == g) false e (λ t. omega (arith, same_number 0 g t)) (λ t. absurd (not_both false t refl))

groups_are : (s : Setting) (q : ℕ) → IsSetting s → AreGroups s.groups (groups_read s q)
groups_are s q m = elim (s.groups == 1) as (λ t. (s.groups == 1) ≡ t → AreGroups s.groups (if t then 0 ∷ [] else columns_in (need_of s q))) [
  | true ↦ λ t. (λ g e. only_zero s.groups g (let p = m.groups in omega (arith, p.0)) e, (refl, tt))
  | false ↦ λ t. found_groups s q s.needs t m.needs
] refl

pub grouped : (s : Setting) → IsSetting s → Grouped s
grouped s m = record {
  some = (let p = m.groups in omega (arith, p.0));
  read = λ q c p e. (let r = has_map (piece_at s c) (groups_read s q) p e in ap (chunk_of s) (sym r.2) ∙ div-mul-add c s.groups r.0 ((groups_are s q m).0 r.0 r.1));
  own = λ c g lt. div-mul-add c s.groups g lt;
  once = λ q c. once_map (c * s.groups) (groups_read s q) (groups_are s q m).1;
  few = λ q c. (let k = groups_are s q m in omega (arith, length-map (groups_read s q) (piece_at s c), length_below s.groups (groups_read s q) k.1 k.0));
}

-- Needs and their queries

pub found_need : (s : Setting) (q : ℕ) (m : Need) (ns : List Need) → AllByRecursion (IsNeed s) ns → find (λ n. n.query == q) ns ≡ Some m → IsNeed s m
found_need s q m [] all on = absurd (none_some m on)
found_need s q m (n ∷ ns) all on =
    elim (n.query == q) as (λ t. cond t (Some n) (find (λ k. k.query == q) ns) ≡ Some m → IsNeed s m) [
      | true ↦ λ e. subst (IsNeed s) (same_some n m e) all.0
      | false ↦ λ e. found_need s q m ns all.1 e
    ] on

pub worker_is : (o : Option Need) (w : ℕ) → worker_in o ≡ Some w → (m : Need) × (o ≡ Some m)
worker_is None w e = absurd (none_some w e)
worker_is (Some m) w e = (m, refl)

-- the worker that a need names is a worker
pub worker_below : (s : Setting) (q w : ℕ) → IsSetting s → worker_of s q ≡ Some w → w < s.workers
worker_below s q w m on =
    let n = worker_is (need_of s q) w on in
    let P : ℕ → Type 0 = λ k. k < s.workers in
    subst P (same_some n.0.worker w (sym (ap worker_in n.1) ∙ on)) (found_need s q n.0 s.needs m.needs n.1).worker

pub asking_need : (o : Option Need) (c : ℕ) → has (chunks_in o) c ≡ true → (m : Need) × (o ≡ Some m)
asking_need None c e = absurd (not_both false e refl)
asking_need (Some m) c e = (m, refl)

-- the chunks of a need are chunks of the table
pub asked_below : (s : Setting) (q c : ℕ) → IsSetting s → asks_for s q c ≡ true → c < s.chunks
asked_below s q c m asks =
    let n = asking_need (need_of s q) c asks in
    all_below_at s.chunks n.0.chunks c (found_need s q n.0 s.needs m.needs n.1).within (sym (ap (λ o. has (chunks_in o) c) n.1) ∙ asks)

-- The setting that a book is made for.
use Rattle.std.proofs.Common.{◌≡◌, ◌≢◌, ◌<◌, ◌≤◌, ◌+◌, ◌-◌, ◌∷◌, [], ◌==◌, ◌||◌, ℕ, zero, suc, Bool, true, false, if◌then◌else◌, List, length, map, find, get_or, refl, sym, ◌∙◌, ap, subst, arith}
use Rattle.std.specs.List.{AllByRecursion}
use Rattle.scan_story.specs.declared.setting.Need as asked
use Rattle.scan_story.specs.declared.setting.Setting.{Setting}
use Rattle.scan_story.specs.Counting.{has, count_below}
use Rattle.scan_story.specs.Setting.{IsSetting, IsNeed, AreDistinct, AreColumns, need_of}
use Rattle.scan_story.proofs.Counts.{below_within}
use Rattle.chunk_interest.specs.declared.need.Need.{Need}
use Rattle.chunk_interest.specs.declared.client.Client.{Client}
use Rattle.chunk_interest.specs.Clients.{client_at}
use Rattle.chunk_interest.specs.Fresh.{as_need, wanted, IsFresh}
use Rattle.interest_book.specs.Made.{made_for, IsMadeFor}
use Rattle.chunk_interest.proofs.Below.{equal_number, other_number}
use Rattle.chunk_interest.proofs.Needs.{NoneTwice}
use Rattle.chunk_interest.proofs.Counting.{count_add}

-- How many needs there are

distinct_count : (n : ℕ) (xs : List ℕ) → NoneTwice xs → AllByRecursion (λ (x : ℕ). x < n) xs → length xs ≡ count_below (has xs) n
distinct_count n [] apart below = sym (none_count n)
  where
    none_count : (m : ℕ) → count_below (λ g. false) m ≡ 0
    none_count zero = refl
    none_count (suc m) = none_count m
distinct_count n (x ∷ xs) apart below =
    let here : has (x ∷ xs) x ≡ true = ap (λ (b : Bool). b || has xs x) (equal_number x x refl) in
    let more : length (x ∷ xs) ≡ length xs + 1 = omega arith in
    more ∙ (ap (λ (k : ℕ). k + 1) (distinct_count n xs apart.1 below.1)
    ∙ (ap (λ (b : Bool). if b then count_below (has xs) n + 1 else count_below (has xs) n) (sym here)
    ∙ sym (count_add (has (x ∷ xs)) (has xs) n x below.0 (λ k ne. ap (λ (b : Bool). b || has xs k) (other_number x k (λ e. ne (sym e)))) apart.0)))

others : (s : Setting) (n : asked.Need) (ns : List asked.Need) → 1 ≤ n.query → AllByRecursion (IsNeed s) ns → AllByRecursion (λ (m : asked.Need). n.query ≢ m.query) ns → has (map (λ m. m.query - 1) ns) (n.query - 1) ≡ false
others s n [] some all apart = refl
others s n (m ∷ ns) some all apart =
    let low = all.0.query.0 in
    ap (λ (b : Bool). b || has (map (λ m. m.query - 1) ns) (n.query - 1)) (other_number (m.query - 1) (n.query - 1) (λ e. apart.0 (omega (arith, e, low, some)))) ∙ others s n ns some all.1 apart.1

apart_queries : (s : Setting) (ns : List asked.Need) → AllByRecursion (IsNeed s) ns → AreDistinct ns → NoneTwice (map (λ m. m.query - 1) ns)
apart_queries s [] all distinct = tt
apart_queries s (n ∷ ns) all distinct = (others s n ns all.0.query.0 all.1 distinct.0, apart_queries s ns all.1 distinct.1)

low_queries : (s : Setting) (ns : List asked.Need) → AllByRecursion (IsNeed s) ns → AllByRecursion (λ (x : ℕ). x < 256) (map (λ m. m.query - 1) ns)
low_queries s [] all = tt
low_queries s (n ∷ ns) all = (let q = all.0.query in let low = q.0 in let high = q.1 in omega (arith, low, high), low_queries s ns all.1)

mapped_length : (ns : List asked.Need) → length (map (λ m. m.query - 1) ns) ≡ length ns
mapped_length [] = refl
mapped_length (n ∷ ns) = let rest = mapped_length ns in omega (arith, rest)

pub few_needs : (s : Setting) → IsSetting s → length s.needs ≤ 256
few_needs s ok =
    let count = distinct_count 256 (map (λ m. m.query - 1) s.needs) (apart_queries s s.needs ok.needs ok.distinct) (low_queries s s.needs ok.needs) in
    let most = below_within (has (map (λ m. m.query - 1) s.needs)) 256 in
    omega (arith, count, most, mapped_length s.needs)

-- The setting

-- what is said of a setting is said of one with the same needs and numbers
pub same_setting : (s t : Setting) → s.needs ≡ t.needs → s.chunks ≡ t.chunks → s.workers ≡ t.workers → s.frames ≡ t.frames → s.groups ≡ t.groups → IsSetting s → IsSetting t
same_setting s t needs chunks workers frames groups ok = record {
  distinct = subst AreDistinct needs ok.distinct;
  needs = all_needs t.needs (subst (AllByRecursion (IsNeed s)) needs ok.needs);
  chunks = subst (λ (n : ℕ). n ≤ 1024) chunks ok.chunks;
  workers = subst (λ (n : ℕ). (1 ≤ n) × (n ≤ 32)) workers ok.workers;
  groups = subst (λ (n : ℕ). (1 ≤ n) × (n ≤ 16)) groups ok.groups;
  frames = subst (λ (n : ℕ). n ≤ 33554432) frames ok.frames;
}
  where
    all_needs : (ns : List asked.Need) → AllByRecursion (IsNeed s) ns → AllByRecursion (IsNeed t) ns
    all_needs [] all = tt
    all_needs (n ∷ ns) all = (
      record {
        query = all.0.query;
        worker = subst (λ (k : ℕ). n.worker < k) workers all.0.worker;
        rising = all.0.rising;
        within = subst (λ (k : ℕ). AllByRecursion (λ (c : ℕ). c < k) n.chunks) chunks all.0.within;
        columns_rise = all.0.columns_rise;
        columns = subst (λ (k : ℕ). AreColumns k n.columns) groups all.0.columns;
      },
      all_needs ns all.1,
    )

pub setting_of : (s : Setting) (ns : List Need) (c w f g : ℕ) → IsMadeFor s ns c w f g → IsSetting (made_for ns c w f g) → IsSetting s
setting_of s ns c w f g is ok = same_setting (made_for ns c w f g) s is.needs is.chunks is.workers is.frames is.groups ok

-- queries have numbers up to 256
pub query_small : (s : Setting) (ns : List Need) (k : ℕ) (d : Need) → AllByRecursion (IsNeed s) (map as_need ns) → k < length ns → (get_or ns k d).query ≤ 256
query_small s [] k d all lt = absurd (omega (arith, lt))
query_small s (n ∷ ns) zero d all lt = all.0.query.1
query_small s (n ∷ ns) (suc k) d all lt = query_small s ns k d all.1 (omega (arith, lt))

mapped_needs : (ns : List Need) → length (map as_need ns) ≡ length ns
mapped_needs [] = refl
mapped_needs (n ∷ ns) = let rest = mapped_needs ns in omega (arith, rest)

pub few_made : (ns : List Need) (c w f g : ℕ) → IsSetting (made_for ns c w f g) → length ns ≤ 256
few_made ns c w f g ok = let few = few_needs (made_for ns c w f g) ok in omega (arith, few, mapped_needs ns)

pub fresh_as : (s : Setting) (ns : List Need) (c w f g : ℕ) (ks : List Client) (q : ℕ) → IsMadeFor s ns c w f g → IsFresh g (wanted ns q) (client_at ks q) → IsFresh s.groups (need_of s q) (client_at ks q)
fresh_as s ns c w f g ks q is fresh =
    let G : ℕ → Type 0 = λ x. IsFresh x (wanted ns q) (client_at ks q) in
    let N : List asked.Need → Type 0 = λ x. IsFresh s.groups (find (λ n. n.query == q) x) (client_at ks q) in
    subst N is.needs (subst G is.groups fresh)

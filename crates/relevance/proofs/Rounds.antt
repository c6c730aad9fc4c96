-- Going up and around the chunks from a start meets each chunk once.
use Rattle.std.proofs.Common.{◌≡◌, ◌≢◌, ◌<◌, ◌≤◌, ◌+◌, ◌-◌, ◌%◌, ◌==◌, ℕ, Bool, true, false, if◌then◌else◌, Option, None, Some, IfSome, nat_lt, refl, sym, ◌∙◌, ap, subst, arith, inl, inr}
use Rattle.std.proofs.lemmas.Bool.{cases_eq, cases_lt, cases_Bool}
use Rattle.std.proofs.lemmas.Bool.Decides.{nat_tests}
use Rattle.std.proofs.lemmas.Nat.{mod_below}
use Rattle.std.proofs.Math.Nat.{mod-eq_of_lt, add-mod_right, add-mod-mod, mod-add-mod}
use Rattle.scan_story.specs.declared.setting.Setting.{Setting}
use Rattle.scan_story.specs.Policies.{dist_from}
use Rattle.chunk_interest.proofs.Below.{true_false}
use Rattle.relevance.specs.Around.{chunk_at, far_from}
use Rattle.relevance.specs.Best.{IsFirstBest}
use Rattle.relevance.specs.Rated.{is_below}
use Rattle.relevance.specs.Least.{PicksLeast}

whole_round : (n b x : ℕ) → b ≤ n → x < n → (b + x + (n - b)) % n ≡ x
whole_round n b x within small =
    let e : b + x + (n - b) ≡ x + n = omega (arith, within) in
    ap (λ (k : ℕ). k % n) e ∙ (add-mod_right x n ∙ mod-eq_of_lt small)

there_and_back : (n b x : ℕ) → b ≤ n → x < n → ((b + x) % n + n - b) % n ≡ x
there_and_back n b x within small = ap (λ (k : ℕ). k % n) (apart ((b + x) % n)) ∙ (mod-add-mod (b + x) n (n - b) ∙ whole_round n b x within small)
  where
    apart : (m : ℕ) → m + n - b ≡ m + (n - b)
    apart m = omega (arith, within)

back_and_there : (n b y : ℕ) → b ≤ n → y < n → (b + (y + n - b) % n) % n ≡ y
back_and_there n b y within small =
    let e : b + (y + n - b) ≡ b + y + (n - b) = omega (arith, within) in
    add-mod-mod b (y + n - b) n ∙ (ap (λ (k : ℕ). k % n) e ∙ whole_round n b y within small)

start_within : (s : Setting) (start y : ℕ) → y < s.chunks → start % s.chunks ≤ s.chunks
start_within s start y small = let lt = mod_below start s.chunks (omega (arith, small)) in omega (arith, lt)

-- the chunk so far from the start is so far from it
pub far_is : (s : Setting) (start far : ℕ) → far < s.chunks → dist_from s start (chunk_at s.chunks start far) ≡ far
far_is s start far small = there_and_back s.chunks (start % s.chunks) far (start_within s start far small) small

-- each chunk is the one as far from the start as it is
pub chunk_is : (s : Setting) (start y : ℕ) → y < s.chunks → chunk_at s.chunks start (dist_from s start y) ≡ y
chunk_is s start y small = back_and_there s.chunks (start % s.chunks) y (start_within s start y small) small

pub dist_small : (s : Setting) (start y : ℕ) → y < s.chunks → dist_from s start y < s.chunks
dist_small s start y small = mod_below (y + s.chunks - start % s.chunks) s.chunks (omega (arith, small))

-- the distance of a chunk, as it is computed
pub far_is_dist : (s : Setting) (n start c : ℕ) → n ≡ s.chunks → c < s.chunks → far_from n start c ≡ dist_from s start c
far_is_dist s n start c all small = ap (λ (k : ℕ). far_from k start c) all ∙ some (s.chunks == 0) (dist_from s start c) (not_none s.chunks small)
  where
    not_none : (n : ℕ) → c < n → (n == 0) ≡ false
    not_none n lt = grind (arith, nat_tests, lt)

    some : (b : Bool) (x : ℕ) → b ≡ false → (if b then 0 else x) ≡ x
    some false x e = refl
    some true x e = absurd (true_false true refl e)

-- The nearest chunk that passes

-- those that pass are chunks
abbrev pub AreChunks : Setting → (ℕ → Bool) → Type 0
AreChunks s test = (y : ℕ) → test y ≡ true → y < s.chunks

-- none nearer than so far passes
abbrev pub NoneNearer : Setting → ℕ → (ℕ → Bool) → ℕ → Type 0
NoneNearer s start test far = (y : ℕ) → dist_from s start y < far → test y ≡ false

-- c is the chunk so far from the start, of n chunks
pub none_on : (s : Setting) (start : ℕ) (test : ℕ → Bool) (n far c : ℕ) → AreChunks s test → n ≡ s.chunks → c ≡ chunk_at n start far → test c ≡ false → NoneNearer s start test far → NoneNearer s start test (far + 1)
none_on s start test n far c chunks all is not_here none y near = elim (cases_Bool (test y)) [
  | inl so ↦ (let small = chunks y so in elim (cases_eq (dist_from s start y) far) [
    | inl at ↦ sym (ap test (is ∙ (ap (λ (k : ℕ). chunk_at k start far) all ∙ (ap (chunk_at s.chunks start) (sym at) ∙ chunk_is s start y small)))) ∙ not_here
    | inr other ↦ none y (omega (arith, near, other))
  ])
  | inr not ↦ not
]

pub none_around : (s : Setting) (start : ℕ) (test : ℕ → Bool) (n far : ℕ) → AreChunks s test → n ≡ s.chunks → n ≤ far → NoneNearer s start test far → PicksLeast test (dist_from s start) None
none_around s start test n far chunks all end none y = elim (cases_Bool (test y)) [
  | inl so ↦ (let near = dist_small s start y (chunks y so) in none y (omega (arith, near, all, end)))
  | inr not ↦ not
]

pub nearest : (s : Setting) (start : ℕ) (test : ℕ → Bool) (n far c : ℕ) → n ≡ s.chunks → far < n → c ≡ chunk_at n start far → test c ≡ true → NoneNearer s start test far → PicksLeast test (dist_from s start) (Some c)
nearest s start test n far c all small is here none = record {
  candidate = here;
  best = λ y so. subst (λ (d : ℕ). d ≤ dist_from s start y) (sym far_from) (not_nearer y so);
}
  where
    far_from : dist_from s start c ≡ far
    far_from = ap (dist_from s start) (is ∙ ap (λ (k : ℕ). chunk_at k start far) all) ∙ far_is s start far (omega (arith, small, all))

    not_nearer : (y : ℕ) → test y ≡ true → far ≤ dist_from s start y
    not_nearer y so = elim (cases_lt (dist_from s start y) far) [
      | inl lt ↦ absurd (true_false (test y) so (none y lt))
      | inr le ↦ le
    ]

-- no two chunks are equally far from the start
pub apart : (s : Setting) (start x y : ℕ) → x < s.chunks → y < s.chunks → dist_from s start x ≡ dist_from s start y → x ≡ y
apart s start x y small within same = sym (chunk_is s start x small) ∙ (ap (chunk_at s.chunks start) same ∙ chunk_is s start y within)

-- so the nearest is the first best by how far it is
pub nearest_first : (s : Setting) (start : ℕ) (test : ℕ → Bool) → AreChunks s test → (r : Option ℕ) → PicksLeast test (dist_from s start) r → IfSome r (IsFirstBest is_below test (dist_from s start))
nearest_first s start test chunks None picked = tt
nearest_first s start test chunks (Some c) picked = record {
  candidate = picked.candidate;
  best = λ y t. not_less (dist_from s start y) (dist_from s start c) (picked.best y t);
  first = λ y lt t. elim (cases_eq (dist_from s start c) (dist_from s start y)) [
    | inl same ↦ absurd (let at = apart s start c y (chunks c picked.candidate) (chunks y t) same in omega (arith, at, lt))
    | inr other ↦ less (dist_from s start c) (dist_from s start y) (picked.best y t) other
  ];
}
  where
    not_less : (a b : ℕ) → b ≤ a → nat_lt a b ≡ false
    not_less a b le = grind (arith, nat_tests)

    less : (a b : ℕ) → a ≤ b → a ≢ b → nat_lt a b ≡ true
    less a b le ne = grind (arith, nat_tests, ne)

-- The scans that a legal history stopped are the stopped queries of its setting.
use Rattle.std.proofs.Common.{◌≡◌, ◌≢◌, ◌∙◌, ◌+◌, ◌==◌, ◌||◌, ◌∷◌, [], ℕ, Bool, true, false, List, Option, Some, None, refl, sym, ap, cond, subst}
use Rattle.std.specs.Prelude.{find, if◌then◌else◌}
use Rattle.std.specs.List.{AllByRecursion}
use Rattle.std.proofs.lemmas.Bool.{eq-eqb, ne_eqb}
use Rattle.scan_story.specs.declared.entry.Entry.TheVariants.{Deliver, End, Evict, Failed, Fill, Filled, Plan, Register, Release, Stop}
use Rattle.scan_story.specs.declared.setting.Need.{Need}
use Rattle.scan_story.specs.declared.setting.Setting.{Setting}
use Rattle.scan_story.specs.Counting.{count_among}
use Rattle.scan_story.specs.Legal.{Legal}
use Rattle.scan_story.specs.Setting.{AreDistinct, need_of}
use Rattle.scan_story.specs.Spent.{stopped_queries}
use Rattle.scan_story.specs.Views.{History, is_stopped}
use Rattle.story_laws.proofs.Bools.{same_number}
use Rattle.run_ends.proofs.Asked.{only_asked}
use Rattle.run_ends.proofs.Dealt.{not_stopped}
use Rattle.run_ends.specs.Lines.{stops}

-- ---- the needs whose queries pass

abbrev passing : (ℕ → Bool) → List Need → ℕ
passing t ns = count_among (λ (n : Need). t n.query) ns

head : (t : ℕ → Bool) (n : Need) (ns : List Need) (b : Bool) → t n.query ≡ b → passing t (n ∷ ns) ≡ (if b then passing t ns + 1 else passing t ns)
head t n ns true is = ap (λ b. if b then passing t ns + 1 else passing t ns) is
head t n ns false is = ap (λ b. if b then passing t ns + 1 else passing t ns) is

alike : (t u : ℕ → Bool) (n : Need) (ns : List Need) (b : Bool) → t n.query ≡ b → u n.query ≡ t n.query → passing u ns ≡ passing t ns → passing u (n ∷ ns) ≡ passing t (n ∷ ns)
alike t u n ns true is same rest = head u n ns true (same ∙ is) ∙ ap (λ k. k + 1) rest ∙ sym (head t n ns true is)
alike t u n ns false is same rest = head u n ns false (same ∙ is) ∙ rest ∙ sym (head t n ns false is)

-- with a query that passed before
again : (t : ℕ → Bool) (q : ℕ) (ns : List Need) → t q ≡ true → passing (λ x. q == x || t x) ns ≡ passing t ns
again t q [] is = refl
again t q (n ∷ ns) is = alike t (λ x. q == x || t x) n ns (t n.query) refl (same (q == n.query) refl) (again t q ns is) where
  same : (b : Bool) → (q == n.query) ≡ b → (q == n.query || t n.query) ≡ t n.query
  same true e = ap (λ b. b || t n.query) e ∙ sym (ap t (sym (same_number q n.query e)) ∙ is)
  same false e = ap (λ b. b || t n.query) e

-- with a query of none of them
apart : (t : ℕ → Bool) (q : ℕ) (ns : List Need) → AllByRecursion (λ (m : Need). q ≢ m.query) ns → passing (λ x. q == x || t x) ns ≡ passing t ns
apart t q [] others = refl
apart t q (n ∷ ns) others = alike t (λ x. q == x || t x) n ns (t n.query) refl (ap (λ b. b || t n.query) (ne_eqb q n.query others.0)) (apart t q ns others.1)

-- with a query of one of them that didn't pass
more : (t : ℕ → Bool) (q : ℕ) (m : Need) (ns : List Need) → AreDistinct ns → find (λ n. n.query == q) ns ≡ Some m → t q ≡ false → passing (λ x. q == x || t x) ns ≡ passing t ns + 1
more t q m [] distinct on fresh = absurd (cc on)
more t q m (n ∷ ns) distinct on fresh = by (n.query == q) refl on (λ found. more t q m ns distinct.1 found fresh) where
  by : (b : Bool) → (n.query == q) ≡ b → cond b (Some n) (find (λ k. k.query == q) ns) ≡ Some m → (find (λ k. k.query == q) ns ≡ Some m → passing (λ x. q == x || t x) ns ≡ passing t ns + 1)
      → passing (λ x. q == x || t x) (n ∷ ns) ≡ passing t (n ∷ ns) + 1
  by true e found rest =
      let here : n.query ≡ q = same_number n.query q e in
      let now : (q == n.query || t n.query) ≡ true = ap (λ b. b || t n.query) (eq-eqb q n.query (sym here)) in
      let others : AllByRecursion (λ (m : Need). q ≢ m.query) ns = subst (λ (x : ℕ). AllByRecursion (λ (m : Need). x ≢ m.query) ns) here distinct.0 in
      head (λ x. q == x || t x) n ns true now ∙ ap (λ k. k + 1) (apart t q ns others ∙ sym (head t n ns false (ap t here ∙ fresh)))
  by false e found rest =
      let other : (q == n.query) ≡ false = ne_eqb q n.query (λ same. (let is : (n.query == q) ≡ true = eq-eqb n.query q (sym same) in cc (e, is))) in
      let same : (q == n.query || t n.query) ≡ t n.query = ap (λ b. b || t n.query) other in
      both (t n.query) refl same (rest found)
    where
      both : (b : Bool) → t n.query ≡ b → (q == n.query || t n.query) ≡ t n.query → passing (λ x. q == x || t x) ns ≡ passing t ns + 1 → passing (λ x. q == x || t x) (n ∷ ns) ≡ passing t (n ∷ ns) + 1
      both true is same rest = head (λ x. q == x || t x) n ns true (same ∙ is) ∙ ap (λ k. k + 1) (rest ∙ sym (head t n ns true is))
      both false is same rest = head (λ x. q == x || t x) n ns false (same ∙ is) ∙ rest ∙ ap (λ k. k + 1) (sym (head t n ns false is))

-- ---- histories

-- a scan that is stopped next
next_stop : (s : Setting) (h : History) (q : ℕ) (b : Bool) (o : Option Need) → AreDistinct s.needs → is_stopped h q ≡ b → need_of s q ≡ o → need_of s q ≢ None → stops h ≡ stopped_queries s h
    → (if b then stops h else stops h + 1) ≡ passing (λ x. q == x || is_stopped h x) s.needs
next_stop s h q true o distinct is on some rest = rest ∙ sym (again (is_stopped h) q s.needs is)
next_stop s h q false None distinct is on some rest = absurd (some on)
next_stop s h q false (Some m) distinct is on some rest = ap (λ k. k + 1) rest ∙ sym (more (is_stopped h) q m s.needs distinct on is)

-- a scan that a legal history stops has a need
asked : (s : Setting) (h : History) (q : ℕ) → Legal s h → is_stopped h q ≡ true → need_of s q ≢ None
asked s h q legal stopped none = cc (not_stopped h q (only_asked s h q legal none), stopped)

here : (q : ℕ) (b : Bool) → (q == q || b) ≡ true
here q b = ap (λ t. t || b) (eq-eqb q q refl)

pub stops_are : (s : Setting) (h : History) → AreDistinct s.needs → Legal s h → stops h ≡ stopped_queries s h
stops_are s [] distinct legal = sym (none s.needs) where
  none : (ns : List Need) → passing (λ x. false) ns ≡ 0
  none [] = refl
  none (n ∷ ns) = none ns
stops_are s (Stop w q ∷ h) distinct legal = next_stop s h q (is_stopped h q) (need_of s q) distinct refl refl (asked s (Stop w q ∷ h) q legal (here q (is_stopped h q))) (stops_are s h distinct legal.2)
stops_are s (Failed w q p why ∷ h) distinct legal = next_stop s h q (is_stopped h q) (need_of s q) distinct refl refl (asked s (Failed w q p why ∷ h) q legal (here q (is_stopped h q))) (stops_are s h distinct legal.2)
stops_are s (Register w q ∷ h) distinct legal = stops_are s h distinct legal.2
stops_are s (Plan w q c ∷ h) distinct legal = stops_are s h distinct legal.2
stops_are s (Evict w c ∷ h) distinct legal = stops_are s h distinct legal.2
stops_are s (Fill w f p ∷ h) distinct legal = stops_are s h distinct legal.2
stops_are s (Filled w f p ∷ h) distinct legal = stops_are s h distinct legal.2
stops_are s (Deliver w q c ∷ h) distinct legal = stops_are s h distinct legal.2
stops_are s (Release w q c ∷ h) distinct legal = stops_are s h distinct legal.2
stops_are s (End w q ∷ h) distinct legal = stops_are s h distinct legal.2

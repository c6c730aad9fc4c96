-- A step back over a story from its end.
use Rattle.std.proofs.Common.{◌≡◌, ◌<◌, ◌≤◌, ◌+◌, ◌-◌, ◌==◌, ◌++◌, ℕ, suc, Bool, true, false, List, [], ◌∷◌, length, drop, min, refl, ◌∙◌, sym, ap, arith, eqb-true}
use Rattle.std.specs.Prelude.{Option, None, Some, reverse, if◌then◌else◌}
use Rattle.std.specs.Option.{unwrap_or}
use Rattle.std.proofs.lemmas.List.{reverse-append}
use Rattle.scan_story.specs.declared.entry.Entry.{Entry}
use Rattle.scan_story.specs.declared.entry.Entry.TheVariants.{Register, Plan, Evict, Fill, Filled, Failed, Deliver}
use Rattle.scan_story.specs.declared.entry.Entry.TheVariants.{Release, Stop, End}
use Rattle.inspect_page.specs.declared.scan.Scan.{Scan}
use Rattle.inspect_page.specs.declared.scan_end.ScanEnd.TheVariants.{Over, Stopped}
use Rattle.inspect_page.specs.declared.tally.Tally.{Tally}
use Rattle.inspect_page.specs.Ahead.{blank, query_of, with_entry}
use Rattle.inspect_page.specs.Scans.{count, delivers, fails, plans, scan_at, scan_list, scans_from, tally_of}

pub none_left : {A : Type 0} (es : List A) → drop (length es) es ≡ []
none_left [] = refl
none_left (e ∷ es) = none_left es

one_reversed : (o : Option Scan) → reverse (scan_list o) ≡ scan_list o
one_reversed None = refl
one_reversed (Some s) = refl

-- scans that were gathered from the end, and the scan of the entry before
pub found_back : (p : ℕ) (e : Entry) (xs es : List Entry) (ss : List Scan) (s : Option Scan) → 0 < p → es ≡ e ∷ xs
    → reverse ss ≡ scans_from (p + 1) xs → s ≡ scan_at (p - 1 + 1) e xs
    → reverse (ss ++ scan_list s) ≡ scans_from (p - 1 + 1) es
found_back p e xs es ss s some split before is =
    let k : p + 1 ≡ suc (p - 1 + 1) = omega (arith, some) in
    reverse-append ss (scan_list s)
    ∙ ap (λ t. t ++ reverse ss) (one_reversed s ∙ ap scan_list is)
    ∙ ap (λ t. scan_list (scan_at (p - 1 + 1) e xs) ++ t) (before ∙ ap (λ k. scans_from k xs) k)
    ∙ sym (ap (scans_from (p - 1 + 1)) split)

count_few : (p : Entry → Bool) (es : List Entry) → count p es ≤ length es
count_few p [] = omega arith
count_few p (e ∷ es) = go (p e) (count_few p es)
  where
    go : (b : Bool) → count p es ≤ length es → (if b then count p es + 1 else count p es) ≤ suc (length es)
    go true few = omega (arith, few)
    go false few = omega (arith, few)

-- one more, where there are few
one_more : (p : Entry → Bool) (es : List Entry) → length es < 2147483648 → count p es + 1 ≡ min (count p es + 1) 4294967295
one_more p es few = omega (arith, count_few p es, few)

-- with what an entry says of a query, if it is this one
abbrev pub told : Option ℕ → ℕ → ℕ → Entry → Tally → Tally
told None q i e t = t
told (Some r) q i e t = if r == q then with_entry i e t else t

pub tally_more : (q i : ℕ) (e : Entry) (es : List Entry) → length es < 2147483648
    → tally_of q i (e ∷ es) ≡ told (query_of e) q i e (tally_of q (suc i) es)
tally_more q i (Register w r) es few = refl
tally_more q i (Evict w c) es few = refl
tally_more q i (Fill w f p) es few = refl
tally_more q i (Filled w f p) es few = refl
tally_more q i (Release w r c) es few = refl
tally_more q i (Plan w r c) es few = go (r == q)
  where
    go : (b : Bool) → record (tally_of q (suc i) es) { loads = if b then count (plans q) es + 1 else count (plans q) es }
        ≡ (if b then with_entry i (Plan w r c) (tally_of q (suc i) es) else tally_of q (suc i) es)
    go true = ap (λ n. record (tally_of q (suc i) es) { loads = n }) (one_more (plans q) es few)
    go false = refl
tally_more q i (Deliver w r c) es few = go (r == q)
  where
    go : (b : Bool) → record (tally_of q (suc i) es) { deliveries = if b then count (delivers q) es + 1 else count (delivers q) es }
        ≡ (if b then with_entry i (Deliver w r c) (tally_of q (suc i) es) else tally_of q (suc i) es)
    go true = ap (λ n. record (tally_of q (suc i) es) { deliveries = n }) (one_more (delivers q) es few)
    go false = refl
tally_more q i (Failed w r p why) es few = go (r == q)
  where
    go : (b : Bool) → record (tally_of q (suc i) es) { failures = if b then count (fails q) es + 1 else count (fails q) es }
        ≡ (if b then with_entry i (Failed w r p why) (tally_of q (suc i) es) else tally_of q (suc i) es)
    go true = ap (λ n. record (tally_of q (suc i) es) { failures = n }) (one_more (fails q) es few)
    go false = refl
tally_more q i (Stop w r) es few = go (r == q)
  where
    go : (b : Bool) → record (tally_of q (suc i) es) { end = if b then Stopped i else (tally_of q (suc i) es).end }
        ≡ (if b then with_entry i (Stop w r) (tally_of q (suc i) es) else tally_of q (suc i) es)
    go true = refl
    go false = refl
tally_more q i (End w r) es few = go (r == q)
  where
    go : (b : Bool) → record (tally_of q (suc i) es) { end = if b then Over i else (tally_of q (suc i) es).end }
        ≡ (if b then with_entry i (End w r) (tally_of q (suc i) es) else tally_of q (suc i) es)
    go true = refl
    go false = refl

-- what is known of each query with one entry more, where what is known of the entry's own query was put
pub known_more : (old new : ℕ → Option Tally) (r i : ℕ) (e : Entry) (es : List Entry) (t : Tally) → length es < 2147483648 → query_of e ≡ Some r
    → ((q : ℕ) → unwrap_or (old q) blank ≡ tally_of q (i + 1) es) → t ≡ with_entry i e (tally_of r (i + 1) es)
    → ((q : ℕ) → new q ≡ (if r == q then Some t else old q)) → (q : ℕ) → unwrap_or (new q) blank ≡ tally_of q i (e ∷ es)
known_more old new r i e es t few of before is put q =
    ap (λ o. unwrap_or o blank) (put q) ∙ go (r == q) refl
    ∙ sym (tally_more q i e es few ∙ ap (λ o. told o q i e (tally_of q (suc i) es)) of)
  where
    next : i + 1 ≡ suc i
    next = omega arith

    go : (b : Bool) → (r == q) ≡ b → unwrap_or (if b then Some t else old q) blank ≡ (if b then with_entry i e (tally_of q (suc i) es) else tally_of q (suc i) es)
    go true same = is ∙ ap (λ k. with_entry i e (tally_of k (i + 1) es)) (eqb-true r q same) ∙ ap (λ k. with_entry i e (tally_of q k es)) next
    go false other = before q ∙ ap (λ k. tally_of q k es) next

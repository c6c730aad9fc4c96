-- Lines that are the same tell the same.
use Rattle.std.proofs.Common.{◌≡◌, ◌≢◌, ◌<◌, ◌^◌, ◌∷◌, [], ◌==◌, ℕ, List, Option, None, Some, get_or, map, refl, sym, ◌∙◌, ap, arith}
use Rattle.std.specs.Prelude.{codes, decimal}
use Rattle.std.specs.List.{slice_split}
use Rattle.std.proofs.lemmas.Fmt.{decimal_injective}
use Rattle.scan_story.specs.declared.setting.Need.{Need}
use Rattle.scan_story.specs.declared.setting.PolicyName.{PolicyName}
use Rattle.scan_story.specs.declared.setting.PolicyName.TheVariants.{Relevance, Elevator, Normal, Attach}
use Rattle.setting_text.specs.declared.head.Head.{Head}
use Rattle.setting_text.specs.Text.{list_text, policy_text, head_words, need_words, head_line, need_line}
use Rattle.setting_text.specs.Reading.{AreShort, FitsHead, FitsNeed}
use Rattle.setting_text.proofs.Wording.{head_parts, list_parts, need_parts, no_dash}

same_number : (a b : ℕ) → a < 2 ^ 32 → b < 2 ^ 32 → decimal a ≡ decimal b → a ≡ b
same_number a b la lb e = decimal_injective a b (omega (arith, la)) (omega (arith, lb)) e

same_numbers : (xs ys : List ℕ) → AreShort xs → AreShort ys → map decimal xs ≡ map decimal ys → xs ≡ ys
same_numbers [] [] sx sy e = refl
same_numbers [] (y ∷ ys) sx sy e = absurd cc
same_numbers (x ∷ xs) [] sx sy e = absurd cc
same_numbers (x ∷ xs) (y ∷ ys) sx sy e =
    let one : decimal x ≡ decimal y = cc in
    let more : map decimal xs ≡ map decimal ys = cc in
    ap (λ (n : ℕ). n ∷ xs) (same_number x y sx.0 sy.0 one) ∙ ap (λ (l : List ℕ). y ∷ l) (same_numbers xs ys sx.1 sy.1 more)

same_list : (xs ys : List ℕ) → AreShort xs → AreShort ys → list_text xs ≡ list_text ys → xs ≡ ys
same_list [] [] sx sy e = refl
same_list [] (y ∷ ys) sx sy e = absurd (no_dash y ys sy e)
same_list (x ∷ xs) [] sx sy e = absurd (no_dash x xs sx (sym e))
same_list (x ∷ xs) (y ∷ ys) sx sy e =
    same_numbers (x ∷ xs) (y ∷ ys) sx sy (sym (list_parts x xs sx) ∙ (ap (slice_split (λ (b : ℕ). b == 44)) e ∙ list_parts y ys sy))

abbrev second_byte : List ℕ → ℕ
second_byte l = get_or l 1 0

same_policy : (p q : Option PolicyName) → policy_text p ≡ policy_text q → p ≡ q
same_policy None None e = refl
same_policy None (Some Relevance) e = let k : 110 ≡ 101 = ap second_byte e in absurd (omega (arith, k))
same_policy None (Some Elevator) e = let k : 110 ≡ 108 = ap second_byte e in absurd (omega (arith, k))
same_policy None (Some Normal) e = let k : 110 ≡ 111 = ap second_byte e in absurd (omega (arith, k))
same_policy None (Some Attach) e = let k : 110 ≡ 116 = ap second_byte e in absurd (omega (arith, k))
same_policy (Some Relevance) None e = let k : 101 ≡ 110 = ap second_byte e in absurd (omega (arith, k))
same_policy (Some Relevance) (Some Relevance) e = refl
same_policy (Some Relevance) (Some Elevator) e = let k : 101 ≡ 108 = ap second_byte e in absurd (omega (arith, k))
same_policy (Some Relevance) (Some Normal) e = let k : 101 ≡ 111 = ap second_byte e in absurd (omega (arith, k))
same_policy (Some Relevance) (Some Attach) e = let k : 101 ≡ 116 = ap second_byte e in absurd (omega (arith, k))
same_policy (Some Elevator) None e = let k : 108 ≡ 110 = ap second_byte e in absurd (omega (arith, k))
same_policy (Some Elevator) (Some Relevance) e = let k : 108 ≡ 101 = ap second_byte e in absurd (omega (arith, k))
same_policy (Some Elevator) (Some Elevator) e = refl
same_policy (Some Elevator) (Some Normal) e = let k : 108 ≡ 111 = ap second_byte e in absurd (omega (arith, k))
same_policy (Some Elevator) (Some Attach) e = let k : 108 ≡ 116 = ap second_byte e in absurd (omega (arith, k))
same_policy (Some Normal) None e = let k : 111 ≡ 110 = ap second_byte e in absurd (omega (arith, k))
same_policy (Some Normal) (Some Relevance) e = let k : 111 ≡ 101 = ap second_byte e in absurd (omega (arith, k))
same_policy (Some Normal) (Some Elevator) e = let k : 111 ≡ 108 = ap second_byte e in absurd (omega (arith, k))
same_policy (Some Normal) (Some Normal) e = refl
same_policy (Some Normal) (Some Attach) e = let k : 111 ≡ 116 = ap second_byte e in absurd (omega (arith, k))
same_policy (Some Attach) None e = let k : 116 ≡ 110 = ap second_byte e in absurd (omega (arith, k))
same_policy (Some Attach) (Some Relevance) e = let k : 116 ≡ 101 = ap second_byte e in absurd (omega (arith, k))
same_policy (Some Attach) (Some Elevator) e = let k : 116 ≡ 108 = ap second_byte e in absurd (omega (arith, k))
same_policy (Some Attach) (Some Normal) e = let k : 116 ≡ 111 = ap second_byte e in absurd (omega (arith, k))
same_policy (Some Attach) (Some Attach) e = refl

-- the second of a list and what is behind it
second : (a b c d : List ℕ) (xs ys : List (List ℕ)) → a ∷ b ∷ xs ≡ c ∷ d ∷ ys → (b ≡ d) × (xs ≡ ys)
second a b c d xs ys e = (let one : b ≡ d = cc in one, let more : xs ≡ ys = cc in more)

abbrev need_with : ℕ → ℕ → List ℕ → List ℕ → Need
need_with q w c g = record { query = q; worker = w; chunks = c; columns = g }

need_made : (a b : Need) → a.query ≡ b.query → a.worker ≡ b.worker → a.chunks ≡ b.chunks → a.columns ≡ b.columns → a ≡ b
need_made a b q w c g =
    ap (λ (x : ℕ). need_with x a.worker a.chunks a.columns) q ∙ (ap (λ (x : ℕ). need_with b.query x a.chunks a.columns) w
    ∙ (ap (λ (x : List ℕ). need_with b.query b.worker x a.columns) c ∙ ap (λ (x : List ℕ). need_with b.query b.worker b.chunks x) g))

abbrev head_with : ℕ → ℕ → ℕ → ℕ → Option PolicyName → Head
head_with w f c g p = record { workers = w; frames = f; chunks = c; groups = g; policy = p }

pub head_made : (a b : Head) → a.workers ≡ b.workers → a.frames ≡ b.frames → a.chunks ≡ b.chunks → a.groups ≡ b.groups → a.policy ≡ b.policy → a ≡ b
head_made a b w f c g p =
    ap (λ (x : ℕ). head_with x a.frames a.chunks a.groups a.policy) w ∙ (ap (λ (x : ℕ). head_with b.workers x a.chunks a.groups a.policy) f
    ∙ (ap (λ (x : ℕ). head_with b.workers b.frames x a.groups a.policy) c ∙ (ap (λ (x : ℕ). head_with b.workers b.frames b.chunks x a.policy) g
    ∙ ap (λ (x : Option PolicyName). head_with b.workers b.frames b.chunks b.groups x) p)))

pub same_need : (n m : Need) → FitsNeed n → FitsNeed m → need_line n ≡ need_line m → n ≡ m
same_need n m fn fm e =
    let words : need_words n ≡ need_words m = sym (need_parts n fn) ∙ (ap (slice_split (λ (b : ℕ). b == 32)) e ∙ need_parts m fm) in
    let query = second _ _ _ _ _ _ words in
    let worker = second _ _ _ _ _ _ query.1 in
    let chunks = second _ _ _ _ _ _ worker.1 in
    let columns = second _ _ _ _ _ _ chunks.1 in
    need_made n m (same_number n.query m.query fn.0 fm.0 query.0) (same_number n.worker m.worker fn.1 fm.1 worker.0) (same_list n.chunks m.chunks fn.2 fm.2 chunks.0) (same_list n.columns m.columns fn.3 fm.3 columns.0)

pub same_head : (a b : Head) → FitsHead a → FitsHead b → head_line a ≡ head_line b → a ≡ b
same_head a b fa fb e =
    let words : head_words a ≡ head_words b = sym (head_parts a fa) ∙ (ap (slice_split (λ (x : ℕ). x == 32)) e ∙ head_parts b fb) in
    let workers = second _ _ _ _ _ _ words in
    let frames = second _ _ _ _ _ _ workers.1 in
    let chunks = second _ _ _ _ _ _ frames.1 in
    let groups = second _ _ _ _ _ _ chunks.1 in
    let policy = second _ _ _ _ _ _ groups.1 in
    head_made a b (same_number a.workers b.workers fa.0 fb.0 workers.0) (same_number a.frames b.frames fa.1 fb.1 frames.0) (same_number a.chunks b.chunks fa.2 fb.2 chunks.0)
    (same_number a.groups b.groups fa.3 fb.3 groups.0) (same_policy a.policy b.policy policy.0)

pub head_some : (w f c g : ℕ) (p : Option PolicyName) (h : Head) → ◌≡◌ {A = Option ((ℕ × ℕ) × (ℕ × ℕ))} (Some ((w, f), (c, g))) (Some ((h.workers, h.frames), (h.chunks, h.groups))) → Some p ≡ Some h.policy
    → Some (head_with w f c g p) ≡ Some h
head_some w f c g p h told name =
    let t : ◌≡◌ {A = (ℕ × ℕ) × (ℕ × ℕ)} ((w, f), (c, g)) ((h.workers, h.frames), (h.chunks, h.groups)) = cc in
    let a : w ≡ h.workers = ap (λ (x : (ℕ × ℕ) × (ℕ × ℕ)). x.0.0) t in
    let b : f ≡ h.frames = ap (λ (x : (ℕ × ℕ) × (ℕ × ℕ)). x.0.1) t in
    let d : c ≡ h.chunks = ap (λ (x : (ℕ × ℕ) × (ℕ × ℕ)). x.1.0) t in
    let e : g ≡ h.groups = ap (λ (x : (ℕ × ℕ) × (ℕ × ℕ)). x.1.1) t in
    let k : p ≡ h.policy = cc in
    ap Some (head_made (head_with w f c g p) h a b d e k)

pub need_some : (q w : ℕ) (cs gs : List ℕ) (fc fg : Option (List ℕ)) (n : Need) → ◌≡◌ {A = Option (ℕ × ℕ)} (Some (q, w)) (Some (n.query, n.worker)) → fc ≡ Some cs → fc ≡ Some n.chunks → fg ≡ Some gs → fg ≡ Some n.columns
    → Some (need_with q w cs gs) ≡ Some n
need_some q w cs gs fc fg n told ic c ig g =
    let t : ◌≡◌ {A = ℕ × ℕ} (q, w) (n.query, n.worker) = cc in
    let a : q ≡ n.query = ap (λ (x : ℕ × ℕ). x.0) t in
    let b : w ≡ n.worker = ap (λ (x : ℕ × ℕ). x.1) t in
    let d : cs ≡ n.chunks = cc in
    let e : gs ≡ n.columns = cc in
    ap Some (need_made (need_with q w cs gs) n a b d e)

-- The words of lines, and the numbers that words tell.
use Rattle.std.proofs.Common.{◌≡◌, ◌≢◌, ◌<◌, ◌≤◌, ◌-◌, ◌^◌, ◌∷◌, [], ◌++◌, ◌==◌, ◌&&◌, not, ℕ, Bool, true, false, List, Option, None, Some, length, take, drop, get_or, map, refl, sym, ◌∙◌, ap, subst, append_assoc, arith}
use Rattle.std.specs.Prelude.{codes, decimal}
use Rattle.std.specs.List.{AllByRecursion, flat_map, slice_split}
use Rattle.scan_story.specs.declared.setting.Need.{Need}
use Rattle.scan_story.specs.declared.setting.PolicyName.{PolicyName}
use Rattle.scan_story.specs.declared.setting.PolicyName.TheVariants.{Relevance, Elevator, Normal, Attach}
use Rattle.std.proofs.lemmas.Bool.Decides.{nat_tests}
use Rattle.story_text.specs.Reading.{lacks}
use Rattle.story_text.proofs.Digits.{decimal_digits}
use Rattle.setting_text.specs.declared.head.Head.{Head}
use Rattle.setting_text.specs.Text.{list_text, policy_text, head_words, need_words, head_line, need_line}
use Rattle.setting_text.specs.Reading.{AreShort, FitsHead, FitsNeed}
use Rattle.setting_text.proofs.Parts.{AllLack, lacks_both, split_lacks, split_at, split_join, join_lacks, uncons}

clean : (mark n : ℕ) → mark < 48 → n < 2 ^ 32 → lacks mark (decimal n) ≡ true
clean mark n low lt = (decimal_digits n (omega (arith, lt))).unmarked mark low

behind : (mark x : ℕ) (xs : List ℕ) → (x == mark) ≡ false → lacks mark xs ≡ true → lacks mark (x ∷ xs) ≡ true
behind mark x xs ne e = at_byte (x == mark) ne
  where
    at_byte : (t : Bool) → t ≡ false → (not t && lacks mark xs) ≡ true
    at_byte false k = e
    at_byte true k = absurd cc

tail_lacks : (mark : ℕ) (ns : List ℕ) → mark < 48 → (44 == mark) ≡ false → AreShort ns → lacks mark (flat_map (λ (m : ℕ). 44 ∷ decimal m) ns) ≡ true
tail_lacks mark [] low comma short = refl
tail_lacks mark (m ∷ ns) low comma short =
    behind mark 44 (decimal m ++ flat_map (λ (k : ℕ). 44 ∷ decimal k) ns) comma
    (lacks_both mark (decimal m) (flat_map (λ (k : ℕ). 44 ∷ decimal k) ns) (clean mark m low short.0) (tail_lacks mark ns low comma short.1))

some_lacks : (mark n : ℕ) (ns : List ℕ) → mark < 48 → (44 == mark) ≡ false → AreShort (n ∷ ns) → lacks mark (list_text (n ∷ ns)) ≡ true
some_lacks mark n ns low comma short =
    lacks_both mark (decimal n) (flat_map (λ (m : ℕ). 44 ∷ decimal m) ns) (clean mark n low short.0) (tail_lacks mark ns low comma short.1)

apart : (a b : ℕ) → b < a → (a == b) ≡ false
apart a b lt = grind (arith, nat_tests)

list_lacks : (mark : ℕ) (ns : List ℕ) → mark < 44 → AreShort ns → lacks mark (list_text ns) ≡ true
list_lacks mark [] low short = behind mark 45 [] (apart 45 mark (omega (arith, low))) refl
list_lacks mark (n ∷ ns) low short = some_lacks mark n ns (omega (arith, low)) (apart 44 mark low) short

nothing_more : (xs : List ℕ) → xs ++ [] ≡ xs
nothing_more [] = refl
nothing_more (x ∷ xs) = ap (λ (l : List ℕ). x ∷ l) (nothing_more xs)

-- a list is split at its commas into its numbers
pub list_parts : (n : ℕ) (ns : List ℕ) → AreShort (n ∷ ns) → slice_split (λ (b : ℕ). b == 44) (list_text (n ∷ ns)) ≡ map decimal (n ∷ ns)
list_parts n [] short = ap (slice_split (λ (b : ℕ). b == 44)) (nothing_more (decimal n)) ∙ split_lacks 44 (decimal n) (clean 44 n (omega arith) short.0)
list_parts n (m ∷ ns) short =
    split_at 44 (decimal n) (list_text (m ∷ ns)) (clean 44 n (omega arith) short.0) ∙ ap (λ (l : List (List ℕ)). decimal n ∷ l) (list_parts m ns short.1)

-- no list of numbers is a dash
pub no_dash : (n : ℕ) (ns : List ℕ) → AreShort (n ∷ ns) → codes "-" ≢ list_text (n ∷ ns)
no_dash n ns short e =
    let off : false ≡ true = subst (λ (l : List ℕ). lacks 45 l ≡ true) (sym e) (some_lacks 45 n ns (omega arith) refl short) in
    absurd cc

name_lacks : (p : Option PolicyName) → (lacks 32 (policy_text p) ≡ true) × (lacks 10 (policy_text p) ≡ true)
name_lacks None = (refl, refl)
name_lacks (Some Relevance) = (refl, refl)
name_lacks (Some Elevator) = (refl, refl)
name_lacks (Some Normal) = (refl, refl)
name_lacks (Some Attach) = (refl, refl)

need_lack : (mark : ℕ) (n : Need) → FitsNeed n → mark < 44 → AllLack mark (codes "query" ∷ codes "worker" ∷ codes "chunks" ∷ codes "columns" ∷ []) → AllLack mark (need_words n)
need_lack mark n f low k = (
  k.0,
  (
    clean mark n.query (omega (arith, low)) f.0,
    (
      k.1.0,
      (
        clean mark n.worker (omega (arith, low)) f.1,
        (
          k.1.1.0,
          (list_lacks mark n.chunks low f.2, (k.1.1.1.0, (list_lacks mark n.columns low f.3, tt))),
        ),
      ),
    ),
  ),
)

-- a query's line is split at its blanks into its words
pub need_parts : (n : Need) → FitsNeed n → slice_split (λ (b : ℕ). b == 32) (need_line n) ≡ need_words n
need_parts n f = split_join 32 (codes "query") _ (need_lack 32 n f (omega arith) (refl, (refl, (refl, (refl, tt)))))

pub need_clean : (n : Need) → FitsNeed n → lacks 10 (need_line n) ≡ true
need_clean n f = join_lacks 10 32 (need_words n) refl (need_lack 10 n f (omega arith) (refl, (refl, (refl, (refl, tt)))))

head_lack : (mark : ℕ) (h : Head) → FitsHead h → mark < 48
    → AllLack mark (codes "workers" ∷ codes "frames" ∷ codes "chunks" ∷ codes "groups" ∷ codes "policy" ∷ policy_text h.policy ∷ []) → AllLack mark (head_words h)
head_lack mark h f low k = (
  k.0,
  (
    clean mark h.workers low f.0,
    (
      k.1.0,
      (
        clean mark h.frames low f.1,
        (
          k.1.1.0,
          (
            clean mark h.chunks low f.2,
            (k.1.1.1.0, (clean mark h.groups low f.3, (k.1.1.1.1.0, (k.1.1.1.1.1.0, tt)))),
          ),
        ),
      ),
    ),
  ),
)

pub head_parts : (h : Head) → FitsHead h → slice_split (λ (b : ℕ). b == 32) (head_line h) ≡ head_words h
head_parts h f = split_join 32 (codes "workers") _ (head_lack 32 h f (omega arith) (refl, (refl, (refl, (refl, (refl, ((name_lacks h.policy).0, tt)))))))

pub head_clean : (h : Head) → FitsHead h → lacks 10 (head_line h) ≡ true
head_clean h f = join_lacks 10 32 (head_words h) refl (head_lack 10 h f (omega arith) (refl, (refl, (refl, (refl, (refl, ((name_lacks h.policy).1, tt)))))))

-- Lists of numbers, word by word

-- of words that tell these numbers some are read, and some are left
pub record Left (list : List ℕ) (rest : List (List ℕ)) (ns : List ℕ) : Type 0 where
  pub left : List ℕ
  pub joined : list ++ left ≡ ns
  pub rest_is : rest ≡ map decimal left
  pub short : AreShort left

pub left_next : (list ns : List ℕ) (w : List ℕ) (after : List (List ℕ)) (k : ℕ) → ((n : ℕ) → n < 2 ^ 32 → w ≡ decimal n → Some k ≡ Some n) → Left list (w ∷ after) ns → Left (list ++ k ∷ []) after ns
left_next list ns w after k reads l = at l.left l.joined l.rest_is l.short
  where
    at : (ms : List ℕ) → list ++ ms ≡ ns → w ∷ after ≡ map decimal ms → AreShort ms → Left (list ++ k ∷ []) after ns
    at [] joined is short = absurd cc
    at (m ∷ ms) joined is short =
        let word : w ≡ decimal m = cc in
        let more : after ≡ map decimal ms = cc in
        let same : Some k ≡ Some m = reads m short.0 word in
        let number : k ≡ m = cc in
        record { left = ms; joined = append_assoc list (k ∷ []) ms ∙ (ap (λ (x : ℕ). list ++ x ∷ ms) number ∙ joined); rest_is = more; short = short.1 }

pub left_none : (list ns : List ℕ) (w : List ℕ) (after : List (List ℕ)) (r : Option ℕ) → r ≡ None → ((n : ℕ) → n < 2 ^ 32 → w ≡ decimal n → r ≡ Some n) → Left list (w ∷ after) ns → ⊥
left_none list ns w after r none reads l = at l.left l.rest_is l.short
  where
    at : (ms : List ℕ) → w ∷ after ≡ map decimal ms → AreShort ms → ⊥
    at [] is short = absurd cc
    at (m ∷ ms) is short =
        let word : w ≡ decimal m = cc in
        let some : r ≡ Some m = reads m short.0 word in
        absurd cc

pub left_over : (list ns : List ℕ) → Left list [] ns → list ≡ ns
left_over list ns l = at l.left l.joined l.rest_is
  where
    at : (ms : List ℕ) → list ++ ms ≡ ns → [] ≡ map decimal ms → list ≡ ns
    at [] joined is = sym (nothing_more list) ∙ joined
    at (m ∷ ms) joined is = absurd cc

pub left_moved : (l m ns : List ℕ) (rest : List (List ℕ)) → l ≡ m → Left m rest ns → Left l rest ns
left_moved l m ns rest e k = subst (λ (xs : List ℕ). Left xs rest ns) (sym e) k

pub left_uncons : {A : Type 0} (f : A → List ℕ) (xs : List A) (d : A) (list ns : List ℕ) → 1 ≤ length xs → Left list (map f xs) ns
    → Left list (f (get_or xs 0 d) ∷ map f (take (length xs - 1) (drop 1 xs))) ns
left_uncons f xs d list ns le k = subst (λ (l : List (List ℕ)). Left list l ns) (uncons f xs d le) k

pub left_end : {A : Type 0} (f : A → List ℕ) (xs : List A) (list ns : List ℕ) → length xs < 1 → Left list (map f xs) ns → list ≡ ns
left_end f [] list ns lt k = left_over list ns k
left_end f (x ∷ xs) list ns lt k = absurd (omega (arith, lt))

pub dash_is : (ns : List ℕ) → AreShort ns → codes "-" ≡ list_text ns → [] ≡ ns
dash_is [] short e = refl
dash_is (n ∷ ns) short e = absurd (no_dash n ns short e)

pub list_split : (word ns : List ℕ) → AreShort ns → (word ≡ codes "-" → ⊥) → word ≡ list_text ns → slice_split (λ (b : ℕ). b == 44) word ≡ map decimal ns
list_split word [] short other e = absurd (other e)
list_split word (n ∷ ns) short other e = ap (slice_split (λ (b : ℕ). b == 44)) e ∙ list_parts n ns short

pub head_split : (line : List ℕ) (h : Head) → FitsHead h → line ≡ head_line h → slice_split (λ (b : ℕ). b == 32) line ≡ head_words h
head_split line h fits e = ap (slice_split (λ (b : ℕ). b == 32)) e ∙ head_parts h fits

pub need_split : (line : List ℕ) (n : Need) → FitsNeed n → line ≡ need_line n → slice_split (λ (b : ℕ). b == 32) line ≡ need_words n
need_split line n fits e = ap (slice_split (λ (b : ℕ). b == 32)) e ∙ need_parts n fits

pub short_more : (ns : List ℕ) (n : ℕ) → AreShort ns → n < 2 ^ 32 → AreShort (ns ++ n ∷ [])
short_more [] n short lt = (lt, tt)
short_more (m ∷ ns) n short lt = (short.0, short_more ns n short.1 lt)

pub head_other : (h n : Head) (line text : List ℕ) (b : Bool) → Some h ≡ Some n → text ≡ head_line h → line ≡ head_line n → (text ≡ line → b ≡ true) → b ≡ false → ⊥
head_other h n line text b some told is equal off =
    let same : h ≡ n = cc in
    let on : b ≡ true = equal (told ∙ (ap head_line same ∙ sym is)) in
    let both : true ≡ false = sym on ∙ off in absurd cc

pub need_other : (h n : Need) (line text : List ℕ) (b : Bool) → Some h ≡ Some n → text ≡ need_line h → line ≡ need_line n → (text ≡ line → b ≡ true) → b ≡ false → ⊥
need_other h n line text b some told is equal off =
    let same : h ≡ n = cc in
    let on : b ≡ true = equal (told ∙ (ap need_line same ∙ sym is)) in
    let both : true ≡ false = sym on ∙ off in absurd cc

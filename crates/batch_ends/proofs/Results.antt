-- The results of parts, one more at a time, and the answers to queries one after another.
use Rattle.std.proofs.Common.{◌≡◌, ◌∙◌, ◌<◌, ◌≤◌, ◌+◌, ◌++◌, ◌∷◌, ℕ, zero, suc, List, [], length, map, take, drop, get_or, refl, sym, ap, subst, arith, inl, inr, add-one, length-drop, Vec}
use Rattle.std.specs.Prelude.{All, Option, None, Some, Ok, Err}
use Rattle.std.specs.Global.{Global}
use Rattle.std.specs.List.{AllByRecursion, remove}
use Rattle.std.proofs.lemmas.List.{get_or-drop, map-append, take_more}
use Rattle.std.proofs.lemmas.List.Elements.{All-from_recursion, recursion_from_All}
use Rattle.table_core.specs.declared.cell.Cell.{Cell}
use Rattle.query_meaning.specs.Rows.{Numbered}
use Rattle.sql_bind.specs.declared.plan.Plan.{Plan}
use Rattle.scan_story.specs.declared.cause.Cause.{Cause}
use Rattle.scan_story.specs.declared.cause.Cause.TheVariants as cause
use Rattle.query_gather.specs.declared.answer.Answer.{Answer}
use Rattle.query_gather.specs.declared.answer.Answer.TheVariants as answer
use Rattle.query_gather.specs.declared.partial.Partial.{Partial}
use Rattle.query_gather.specs.Answer.{IsAnswerOver, StopsFor}
use Rattle.query_gather.specs.Partial.{FitsPlan, IsAlike, MayJoinAll, StandForEach, Stands, joined, row_count, rows_of_all}
use Rattle.query_gather.proofs.Alike.{both_alike}
use Rattle.query_gather.proofs.Standing.{stands_reordered}
use Rattle.batch_ends.specs.Answering.{AnswersParts, AnswersSome, AreAllJoinable, AreApart, AreJoinable, AreParts, Came, IsAnswerOf, IsStoppedFor, MayAllJoin, first_cause}
use Rattle.batch_ends.specs.declared.answering.Parts.{Parts}
use Rattle.batch_ends.specs.declared.answering.Parts.TheVariants as parts
use Rattle.batch_ends.specs.Lost.{or_first, stop_of}

cause_on : (rs more : List Came) → first_cause (rs ++ more) ≡ or_first (first_cause rs) (first_cause more)
cause_on [] more = refl
cause_on (Ok partial ∷ rs) more = cause_on rs more
cause_on (Err why ∷ rs) more = refl

pub none_stopped : (all : List Partial) → first_cause (map Ok all) ≡ None
none_stopped [] = refl
none_stopped (partial ∷ all) = none_stopped all

module _ (rs : List Came) where
  pub all_more : (all new : List Partial) (partial : Partial) → rs ≡ map Ok all → new ≡ all ++ partial ∷ [] → rs ++ Ok partial ∷ [] ≡ map Ok new
  all_more all new partial are grown = ap (λ (l : List Came). l ++ Ok partial ∷ []) are ∙ sym (map-append Ok all (partial ∷ [])) ∙ ap (λ (l : List Partial). map Ok l) (sym grown)

  pub all_short : (all : List Partial) → rs ≡ map Ok all → first_cause rs ≡ None
  all_short all are = ap first_cause are ∙ none_stopped all

  pub short_more : (partial : Partial) → first_cause rs ≡ None → first_cause (rs ++ Ok partial ∷ []) ≡ None
  short_more partial none = cause_on rs (Ok partial ∷ []) ∙ ap (λ (o : Option Cause). or_first o None) none

  pub stopped_more : (r : Came) (why : Cause) → first_cause rs ≡ Some why → first_cause (rs ++ r ∷ []) ≡ Some why
  stopped_more r why first = cause_on rs (r ∷ []) ∙ ap (λ (o : Option Cause). or_first o (first_cause (r ∷ []))) first

  pub stopped_now : (why : Cause) → first_cause rs ≡ None → first_cause (rs ++ Err why ∷ []) ≡ Some why
  stopped_now why none = cause_on rs (Err why ∷ []) ∙ ap (λ (o : Option Cause). or_first o (Some why)) none

  -- ---- the answer to one query

  same_all : (xs ys : List Partial) → map Ok xs ≡ map {B = Came} Ok ys → xs ≡ ys
  same_all [] [] e = refl
  same_all [] (y ∷ ys) e = absurd (cc)
  same_all (x ∷ xs) [] e = absurd (cc)
  same_all (x ∷ xs) (y ∷ ys) e = let rest = same_all xs ys (cc) in let first : x ≡ y = cc in ap (λ (l : List Partial). x ∷ l) rest ∙ ap (λ (p : Partial). p ∷ ys) first

  lost_joined : (a : Answer) → StopsFor cause.Memory a → IsStoppedFor None (stop_of a)
  lost_joined (answer.Stopped why) stops = inr (refl, ap Some stops)
  lost_joined (answer.Rows r) stops = inl refl
  lost_joined (answer.Picked r) stops = inl refl
  lost_joined (answer.Overflow item total) stops = inl refl

  pub answer_joined : (all : List Partial) (a : Answer) → rs ≡ map Ok all → AnswersParts all a → StopsFor cause.Memory a → IsAnswerOf rs a
  answer_joined all a are over stops = record {
    lost = subst (λ (o : Option Cause). IsStoppedFor o (stop_of a)) (sym (all_short all are)) (lost_joined a stops);
    over = λ other same. subst (λ (l : List Partial). AnswersParts l a) (same_all all other (sym are ∙ same)) over;
  }

  pub answer_stopped : (why : Cause) → first_cause rs ≡ Some why → IsAnswerOf rs (answer.Stopped why)
  answer_stopped why first = record { lost = inl (sym first); over = λ all are p lists rows fit stands apart same. tt }

  pub answer_short : first_cause rs ≡ None → IsAnswerOf rs (answer.Stopped cause.Memory)
  answer_short none = record { lost = inr (none, refl); over = λ all are p lists rows fit stands apart same. tt }

-- ---- the answers to queries one after another

pub answers_more : (parts : ℕ) (rs : List Came) (answers : List Answer) (left : List Came) (a : Answer) → AnswersSome parts rs answers left → IsAnswerOf (take parts left) a → AnswersSome parts rs (answers ++ a ∷ []) (drop parts left)
answers_more parts rs [] left a same is = let Of = λ (l : List Came). IsAnswerOf (take parts l) a in (subst Of same is, ap (drop parts) same)
answers_more parts rs (b ∷ answers) left a some is = (some.0, answers_more parts (drop parts rs) answers left a some.1 is)

-- ---- what is kept

module _ (rs : List Came) (s : Parts) where
  pub kept_all : (all : Vec Partial Global) → s ≡ parts.All all → AreParts rs s → rs ≡ map Ok all.items
  kept_all all is are = let Of = λ (t : Parts). AreParts rs t in subst Of is are

  pub kept_stop : (why : Cause) → s ≡ parts.Stopped why → AreParts rs s → first_cause rs ≡ Some why
  kept_stop why is are = let Of = λ (t : Parts). AreParts rs t in subst Of is are

  pub kept_short : s ≡ parts.Short → AreParts rs s → first_cause rs ≡ None
  kept_short is are = let Of = λ (t : Parts). AreParts rs t in subst Of is are

-- ---- parts joined

-- the first of some parts, and the others
pub front : (all left : List Partial) (first : Partial) → 1 ≤ length all → first ≡ get_or all 0 first → left ≡ remove all 0 → all ≡ first ∷ left
front [] left first some at others = absurd (omega (arith, some))
front (p ∷ all) left first some at others = ap (λ (q : Partial). q ∷ all) (sym at) ∙ ap (λ (ps : List Partial). first ∷ ps) (sym others)

module _ (all left : List Partial) (first : Partial) (are : all ≡ first ∷ left) where
  alike_rest : (p : Plan) → All (FitsPlan p) all → All (IsAlike first) left
  alike_rest p fit =
      let Fit = λ (ps : List Partial). AllByRecursion (FitsPlan p) ps in
      let each = subst Fit are (recursion_from_All (FitsPlan p) all fit) in
      All-from_recursion (IsAlike first) left (others left each.0 each.1) where
        others : (ps : List Partial) → FitsPlan p first → AllByRecursion (FitsPlan p) ps → AllByRecursion (IsAlike first) ps
        others [] here each = tt
        others (q ∷ ps) here each = (both_alike p first q here each.0, others ps here each.1)

  pub alike_parts : AreJoinable all → All (IsAlike first) left
  alike_parts can = alike_rest can.plan can.fit

  pub few_parts : AreJoinable all → row_count first + rows_of_all left ≤ 2097152
  few_parts can = let same = ap rows_of_all are in omega (arith, can.few, same)

  pub answers_parts : (whole : Partial) (a : Answer) → ((rows : List (Numbered Cell)) (lists : List (List (Numbered Cell))) → Stands first rows → StandForEach left lists → MayJoinAll first rows lists → Stands whole (rows ++ joined lists))
      → ((p : Plan) → FitsPlan p first → FitsPlan p whole) → ((p : Plan) (rows : List (Numbered Cell)) → FitsPlan p whole → Stands whole rows → IsAnswerOver p rows a) → AnswersParts all a
  answers_parts whole a stands plan answer p lists rows fit each apart same =
      let Fit = λ (ps : List Partial). AllByRecursion (FitsPlan p) ps in
      let Each = λ (ps : List Partial). StandForEach ps lists in
      let Apart = λ (ps : List Partial). AreApart ps lists in
      let one = (subst Fit are (recursion_from_All (FitsPlan p) all fit)).0 in
      answer p rows (plan p one) (stands_reordered whole (joined lists) rows same (by lists (subst Each are each) (subst Apart are apart))) where
        by : (ls : List (List (Numbered Cell))) → StandForEach (first ∷ left) ls → AreApart (first ∷ left) ls → Stands whole (joined ls)
        by [] each apart = absurd each
        by (l ∷ ls) each apart = stands l ls each.0 each.1 apart

-- ---- one more part of the first ones

drop_one : (i : ℕ) (l : List Came) → drop 1 (drop i l) ≡ drop (i + 1) l
drop_one i l = rw (add-one i) (drop_suc i l) where
  drop_suc : (n : ℕ) (k : List Came) → drop 1 (drop n k) ≡ drop (suc n) k
  drop_suc zero k = refl
  drop_suc (suc n) [] = refl
  drop_suc (suc n) (r ∷ k) = drop_suc n k

pub some_left : (old now : List Came) (i : ℕ) → i < length old → now ≡ drop i old → 0 < length now
some_left old now i all left = let e = ap length left in omega (arith, e, length-drop i old, all)

module _ (old now : List Came) (i : ℕ) (next : Came) (all : i < length old) (left : now ≡ drop i old) (at : next ≡ get_or now 0 next) where
  next_is : next ≡ get_or old i next
  next_is = at ∙ ap (λ (l : List Came). get_or l 0 next) left ∙ get_or-drop i old 0 next ∙ ap (λ (n : ℕ). get_or old n next) (omega arith)

  pub first_more : take (i + 1) old ≡ take i old ++ next ∷ []
  first_more = take_more old i next all ∙ ap (λ (r : Came). take i old ++ r ∷ []) (sym next_is)

  pub left_more : (new : List Came) → new ≡ remove now 0 → new ≡ drop (i + 1) old
  left_more new is = is ∙ ap (drop 1) left ∙ drop_one i old

-- ---- the next query

pub next_joinable : (parts n m : ℕ) (rs : List Came) → n ≡ m + 1 → AreAllJoinable parts n rs → AreAllJoinable parts (suc m) rs
next_joinable parts n m rs same all = let Of = λ (k : ℕ). AreAllJoinable parts k rs in subst Of (same ∙ add-one m) all

pub may_join : (rs : List Came) (s : Parts) → AreParts rs s → ((all : List Partial) → rs ≡ map Ok all → AreJoinable all) → MayAllJoin s
may_join rs (parts.All all) are each = each all.items are
may_join rs (parts.Stopped why) are each = tt
may_join rs parts.Short are each = tt

-- What the parts of a query gathered, together.
use Rattle.std.proofs.Common.{◌≡◌, ◌∙◌, ◌<◌, ◌≤◌, ◌+◌, ◌/◌, ◌%◌, ◌++◌, ◌∷◌, ◌==◌, ◌||◌, ℕ, zero, suc, Bool, true, false, List, [], length, map, cond, arith, refl, sym, ap, subst, inl, inr, append_assoc, length-append, add-one, zero-add}
use Rattle.std.specs.Prelude.{◌⊎◌, Some, None, Ok, Err, IsPermutation, nat_lt}
use Rattle.std.specs.List.{AllByRecursion, AllZip}
use Rattle.std.proofs.lemmas.Bool.{and_parts, eqb-true, or_cases, or_right}
use Rattle.std.proofs.lemmas.Grind.{flat_map-append}
use Rattle.std.proofs.lemmas.List.{append-nil, length-map, map-append}
use Rattle.std.proofs.lemmas.List.Elements.{All-from_recursion, filter-append, recursion_from_All}
use Rattle.std.proofs.lemmas.List.Sorted.{IsPermutation-append_left, IsPermutation-append_right, IsPermutation-refl, IsPermutation-sym, IsPermutation-trans, length_permutation}
use Rattle.table_sets.specs.Sets.{AreMembers, has}
use Rattle.table_sets.proofs.Members.{has-numbers, numbers-rise}
use Rattle.table_core.specs.declared.cell.Cell.{Cell}
use Rattle.filter_zones.specs.Possible.{chunk_at, is_needed, needed}
use Rattle.filter_zones.specs.declared.zone.ChunkZones.{ChunkZones}
use Rattle.coop_outside.specs.Pieces.{Stored}
use Rattle.scan_story.specs.declared.cause.Cause.{Cause}
use Rattle.scan_story.specs.declared.entry.Entry.{Entry}
use Rattle.scan_story.specs.declared.origin.Start.{Start}
use Rattle.scan_story.specs.Causes.{cause_of}
use Rattle.scan_story.specs.Views.{is_ended, past}
use Rattle.story_laws.specs.Queries.{chunks_delivered}
use Rattle.story_laws.proofs.Bools.{if_not}
use Rattle.story_laws.proofs.Lists.{rising_once}
use Rattle.frame_pool.specs.Frames.{Told}
use Rattle.piece_format.specs.Shape.{TableShape}
use Rattle.query_meaning.specs.Rows.{Numbered, has_number}
use Rattle.sql_bind.specs.declared.plan.Plan.{Plan}
use Rattle.sql_bind.specs.Meaning.{matches}
use Rattle.sql_bind.specs.Reads.{ReadsItsColumns}
use Rattle.query_gather.specs.declared.answer.Answer.{Answer}
use Rattle.query_gather.specs.declared.answer.Answer.TheVariants as answer
use Rattle.query_gather.specs.declared.partial.Partial.{Partial}
use Rattle.query_gather.specs.declared.partial.Partial.TheVariants as partials
use Rattle.query_gather.specs.Agree.{Agree}
use Rattle.query_gather.specs.Answer.{IsAnswerOver}
use Rattle.query_gather.specs.Partial.{FitsPlan, MayJoin, MayJoinAll, StandForEach, joined, matching, rows_of_all}
use Rattle.query_gather.proofs.Answering.{answer_agrees}
use Rattle.batch_plan.specs.Deal as dealing
use Rattle.batch_plan.specs.Deal.{deal, dealt_to, is_dealt}
use Rattle.batch_plan.proofs.Dealt.{all_dealt}
use Rattle.frame_rows.specs.Tables.{HoldsTable}
use Rattle.batch_plan.specs.declared.task.Task.{Task}
use Rattle.batch_plan.specs.Scans.{scan_number, scans_from_part}
use Rattle.batch_plan.proofs.Rises.{is_rising, rises_to}
use Rattle.batch_ends.specs.Rows.{AreOfShape, FitsShape, chunk_numbers, chunk_rows, numbers_of_chunks, rows_of_chunks}
use Rattle.batch_ends.specs.Came.{CameOf}
use Rattle.batch_ends.specs.Answering.{AreApart, AreJoinable, Came, IsAnswerOf, first_cause}
use Rattle.batch_ends.specs.Lost.{cause_from, or_first, stop_of}
use Rattle.batch_ends.specs.Taken.{TookNeed}
use Rattle.batch_run.proofs.Numbers.{few_numbers, in_chunks, in_numbers}
use Rattle.batch_run.proofs.Orders.{agree_in_order, mapped_in_order, passing_in_order}
use Rattle.batch_run.proofs.Stories.{took_dealt}

-- ---- rows

agree_on : (columns : List ℕ) (xs ys us vs : List (Numbered Cell)) → Agree columns xs ys → Agree columns us vs → Agree columns (xs ++ us) (ys ++ vs)
agree_on columns [] [] us vs first rest = rest
agree_on columns [] (y ∷ ys) us vs first rest = absurd first
agree_on columns (x ∷ xs) [] us vs first rest = absurd first
agree_on columns (x ∷ xs) (y ∷ ys) us vs first rest = (first.0, first.1, agree_on columns xs ys us vs first.2 rest)

each_on : {X : Type 0} (P : X → Type 0) (xs ys : List X) → AllByRecursion P xs → AllByRecursion P ys → AllByRecursion P (xs ++ ys)
each_on P [] ys first rest = rest
each_on P (x ∷ xs) ys first rest = (first.0, each_on P xs ys first.1 rest)

number_on : (xs ys : List (Numbered Cell)) (k : ℕ) → has_number (xs ++ ys) k ≡ true → (has_number xs k ≡ true) ⊎ (has_number ys k ≡ true)
number_on [] ys k is = inr is
number_on (x ∷ xs) ys k is = elim (or_cases (k == x.0) (has_number (xs ++ ys) k) is) [
  | inl here ↦ inl (ap (λ b. b || has_number xs k) here)
  | inr later ↦ elim (number_on xs ys k later) [ inl first ↦ inl (or_right (k == x.0) (has_number xs k) first) | inr rest ↦ inr rest ]
]

module _ (p : Plan) where
  one_matching : (r : Numbered Cell) (rows : List (Numbered Cell)) (k : ℕ) (b : Bool) → (has_number (matching p rows) k ≡ true → has_number rows k ≡ true) → has_number (cond b (r ∷ matching p rows) (matching p rows)) k ≡ true
      → ((k == r.0) || has_number rows k) ≡ true
  one_matching r rows k true rest is = elim (or_cases (k == r.0) (has_number (matching p rows) k) is) [
    | inl here ↦ ap (λ b. b || has_number rows k) here
    | inr later ↦ or_right (k == r.0) (has_number rows k) (rest later)
  ]
  one_matching r rows k false rest is = or_right (k == r.0) (has_number rows k) (rest is)

  matching_number : (rows : List (Numbered Cell)) (k : ℕ) → has_number (matching p rows) k ≡ true → has_number rows k ≡ true
  matching_number [] k is = is
  matching_number (r ∷ rows) k is = one_matching r rows k (matches p.cond r.1) (matching_number rows k) is

  matching_joined : (lists : List (List (Numbered Cell))) → joined (map (matching p) lists) ≡ matching p (joined lists)
  matching_joined [] = refl
  matching_joined (rows ∷ lists) = ap (λ rest. matching p rows ++ rest) (matching_joined lists) ∙ sym (filter-append (λ (r : Numbered Cell). matches p.cond r.1) rows (joined lists))

  -- lists whose numbers have tags of their own share no row
  module _ (tag : ℕ → ℕ) where
    abbrev pub Tagged : ℕ → List (List (Numbered Cell)) → Type 0
    Tagged part [] = Unit {0}
    Tagged part (rows ∷ lists) = ((k : ℕ) → has_number rows k ≡ true → tag k ≡ part) × Tagged (part + 1) lists

    may_join_one : (a : Partial) (done rows : List (Numbered Cell)) (part : ℕ) → ((k : ℕ) → has_number done k ≡ true → tag k < part) → ((k : ℕ) → has_number rows k ≡ true → tag k ≡ part) → MayJoin a done (matching p rows)
    may_join_one (partials.Groups g) done rows part below here = tt
    may_join_one (partials.Top t) done rows part below here = λ k is. if_not (has_number (matching p rows) k) (λ other. omega (arith, below k is, here k (matching_number rows k other)))

    may_join_all : (a : Partial) (done : List (Numbered Cell)) (part : ℕ) (lists : List (List (Numbered Cell))) → ((k : ℕ) → has_number done k ≡ true → tag k < part) → Tagged part lists → MayJoinAll a done (map (matching p) lists)
    may_join_all a done part [] below tagged = tt
    may_join_all a done part (rows ∷ lists) below tagged = (
      may_join_one a done rows part below tagged.0,
      may_join_all a (done ++ matching p rows) (part + 1) lists (λ k is. elim (number_on done (matching p rows) k is) [
        | inl before ↦ omega (arith, below k before)
        | inr here ↦ omega (arith, tagged.0 k (matching_number rows k here))
      ]) tagged.1,
    )

    pub are_apart : (all : List Partial) (part : ℕ) (lists : List (List (Numbered Cell))) → Tagged part lists → AreApart all (map (matching p) lists)
    are_apart [] part lists tagged = tt
    are_apart (a ∷ all) part [] tagged = tt
    are_apart (a ∷ all) part (rows ∷ lists) tagged = may_join_all a (matching p rows) (part + 1) lists (λ k is. omega (arith, tagged.0 k (matching_number rows k is))) tagged.1

-- ---- what came of the parts

-- either all parts have something, or one is the first that was stopped
pub all_or_stopped : (rs : List Came) → ((all : List Partial) × (rs ≡ map Ok all)) ⊎ ((why : Cause) × (first_cause rs ≡ Some why))
all_or_stopped [] = inl ([], refl)
all_or_stopped (Ok partial ∷ rs) = elim (all_or_stopped rs) [ inl all ↦ inl (partial ∷ all.0, ap (λ (l : List Came). Ok partial ∷ l) all.1) | inr stopped ↦ inr stopped ]
all_or_stopped (Err why ∷ rs) = inr (why, refl)

-- an answer over rows that were read; where the depot holds a table, over the rows of its needed chunks
pub record IsAnswerRead (stored : Stored) (told : Told) (z : TableShape) (members : List ℕ) (p : Plan) (a : Answer) : Type 0 where
  pub rows : List (Numbered Cell)
  pub answer : IsAnswerOver p (matching p rows) a
  pub shaped : AllByRecursion (λ (r : Numbered Cell). FitsShape z r.1) rows
  pub held : (table : List (List Cell)) → AreOfShape z table → HoldsTable stored told z table → IsAnswerOver p (matching p (rows_of_chunks z.per members table)) a

module _ (held : Stored) (told : Told) (z : TableShape) (members : List ℕ) (p : Plan) where
  stopped_read : (a : Answer) (why : Cause) → stop_of a ≡ Some why → IsAnswerRead held told z members p a
  stopped_read (answer.Stopped why) other is = record { rows = []; answer = tt; shaped = tt; held = λ table of holds. tt }
  stopped_read (answer.Rows r) other is = absurd (cc)
  stopped_read (answer.Picked r) other is = absurd (cc)
  stopped_read (answer.Overflow item total) other is = absurd (cc)

  stopped : (rs : List Came) (a : Answer) (why : Cause) → first_cause rs ≡ Some why → IsAnswerOf rs a → IsAnswerRead held told z members p a
  stopped rs a why first is = elim is.lost [
    | inl same ↦ stopped_read a why (same ∙ first)
    | inr short ↦ absurd (let none : None ≡ Some why = sym short.0 ∙ first in cc)
  ]

module _ (o : Start) (told : Told) (z : TableShape) (zones : List ChunkZones) (workers parts : ℕ) (story : List Entry) (t : Task) where
  abbrev pub AreCame : ℕ → ℕ → ℕ → List Came → Type 0
  AreCame place part left rs = AllZip (CameOf o told z story) (scans_from_part workers parts t place part left) rs

  abbrev pub Took : ℕ → ℕ → ℕ → Type 0
  Took place part left = AllByRecursion (TookNeed zones parts story) (scans_from_part workers parts t place part left)

  -- the first cause among the parts is the one that the story says
  pub same_cause : ((q : ℕ) → is_ended (past story) q ≡ true → cause_of (past story) q ≡ None) → (place part left : ℕ) (rs : List Came) → AreCame place part left rs → first_cause rs ≡ cause_from (past story) parts t.query part left
  same_cause none place part zero [] came = refl
  same_cause none place part zero (r ∷ rs) came = absurd came
  same_cause none place part (suc left) [] came = absurd came
  same_cause none place part (suc left) (Ok partial ∷ rs) came =
      same_cause none (place + 1) (part + 1) left rs came.1 ∙ sym (ap (λ c. or_first c (cause_from (past story) parts t.query (part + 1) left)) (none (scan_number parts t.query part) came.0.0))
  same_cause none place part (suc left) (Err why ∷ rs) came = sym (ap (λ c. or_first c (cause_from (past story) parts t.query (part + 1) left)) came.0)

  -- the chunks that parts took, one part after another
  abbrev pub chunks_from : ℕ → ℕ → List ℕ
  chunks_from part zero = []
  chunks_from part (suc left) = chunks_delivered story (scan_number parts t.query part) ++ chunks_from (part + 1) left

  abbrev members : List ℕ
  members = needed t.plan.cond zones

  -- to which part the row of a number belongs
  abbrev tag : ℕ → ℕ
  tag k = dealing.place members (k / z.per) % parts

  pub record AreGathered (part left : ℕ) (all : List Partial) : Type 0 where
    pub lists : List (List (Numbered Cell))
    pub fit : AllByRecursion (FitsPlan t.plan) all
    pub stands : StandForEach all (map (matching t.plan) lists)
    pub few : rows_of_all all ≤ length (joined lists)
    pub numbers : map (λ (r : Numbered Cell). r.0) (joined lists) ≡ numbers_of_chunks z (chunks_from part left)
    pub shaped : AllByRecursion (λ (r : Numbered Cell). FitsShape z r.1) (joined lists)
    pub agree : (table : List (List Cell)) → AreOfShape z table → HoldsTable o.held told z table → Agree t.plan.columns (joined lists) (rows_of_chunks z.per (chunks_from part left) table)
    pub tagged : Tagged t.plan tag part lists

  module _ (some : 1 ≤ z.per) where
    tag_is : (part : ℕ) (cs : List ℕ) (rows : List (Numbered Cell)) → map (λ (r : Numbered Cell). r.0) rows ≡ numbers_of_chunks z cs → ((c : ℕ) → has cs c ≡ true → has (deal members parts part) c ≡ true)
        → (k : ℕ) → has_number rows k ≡ true → tag k ≡ part
    tag_is part cs rows same asked k is =
        let c = k / z.per in
        let there : has (numbers_of_chunks z cs) k ≡ true = sym (ap (λ ns. has ns k) same) ∙ in_numbers rows k is in
        let dealt = sym (has-numbers (is_dealt members parts part) 1024 c) ∙ asked c (in_chunks z some cs k there).0 in
        eqb-true (tag k) part (and_parts (has members c) (dealing.place members c % parts == part) (and_parts (nat_lt c 1024) (is_dealt members parts part c) dealt).1).1

    pub gathered : (place part left : ℕ) (all : List Partial) → AreCame place part left (map Ok all) → Took place part left → AreGathered part left all
    gathered place part zero [] came took = record { lists = []; fit = tt; stands = tt; few = omega arith; numbers = refl; shaped = tt; agree = λ table shaped holds. tt; tagged = tt }
    gathered place part zero (a ∷ all) came took = absurd came
    gathered place part (suc left) [] came took = absurd came
    gathered place part (suc left) (a ∷ all) came took =
        let one = came.0.1 in
        let rest = gathered (place + 1) (part + 1) left all came.1 took.1 in
        let cs = chunks_delivered story (scan_number parts t.query part) in
        let behind = chunks_from (part + 1) left in
        let Number = λ (r : Numbered Cell). r.0 in
        let Shaped = λ (r : Numbered Cell). FitsShape z r.1 in
        record {
          lists = one.rows ∷ rest.lists;
          fit = (one.plan, rest.fit);
          stands = (one.stands, rest.stands);
          few = let long = length-append one.rows (joined rest.lists) in omega (arith, one.count, rest.few, long);
          numbers = map-append Number one.rows (joined rest.lists) ∙ ap (λ ns. ns ++ map Number (joined rest.lists)) one.numbers ∙ ap (λ ns. numbers_of_chunks z cs ++ ns) rest.numbers ∙ sym (flat_map-append (chunk_numbers z) cs behind);
          shaped = each_on Shaped one.rows (joined rest.lists) (recursion_from_All Shaped one.rows one.shaped) rest.shaped;
          agree = λ table shaped holds.
              subst (Agree t.plan.columns (one.rows ++ joined rest.lists)) (sym (flat_map-append (chunk_rows z.per table) cs behind))
              (agree_on t.plan.columns one.rows (rows_of_chunks z.per cs table) (joined rest.lists) (rows_of_chunks z.per behind table) (one.agree table shaped holds) (rest.agree table shaped holds));
          tagged = (tag_is part cs one.rows one.numbers took.0.asked, rest.tagged);
        }

    -- parts that have all ended took what was dealt to them
    dealt_from : (place part left : ℕ) (all : List Partial) → AreCame place part left (map Ok all) → Took place part left → IsPermutation (dealt_to members parts part ++ chunks_from part left) (dealt_to members parts (part + left))
    dealt_from place part zero all came took =
        let From = λ (l : List ℕ). IsPermutation l (dealt_to members parts (part + 0)) in
        let same : part ≡ part + 0 = omega arith in
        subst From (sym (append-nil (dealt_to members parts part) ∙ ap (dealt_to members parts) same)) (IsPermutation-refl (dealt_to members parts (part + 0)))
    dealt_from place part (suc left) [] came took = absurd came
    dealt_from place part (suc left) (a ∷ all) came took =
        let done = dealt_to members parts part in
        let cs = chunks_delivered story (scan_number parts t.query part) in
        let dealt = deal members parts part in
        let behind = chunks_from (part + 1) left in
        let next : IsPermutation (dealt_to members parts (part + 1) ++ behind) (dealt_to members parts (part + 1 + left)) = dealt_from (place + 1) (part + 1) left all came.1 took.1 in
        let more : dealt_to members parts (part + 1) ≡ done ++ dealt = ap (dealt_to members parts) (add-one part) in
        let end : part + 1 + left ≡ part + suc left = omega arith in
        let one = took_dealt zones parts story _ took.0 came.0.0 in
        let here = IsPermutation-append_left behind (done ++ cs) (done ++ dealt) (IsPermutation-append_right done cs dealt one) in
        let From = λ (l : List ℕ). IsPermutation l (dealt_to members parts (part + suc left)) in
        let To = λ (n : ℕ). IsPermutation ((done ++ dealt) ++ behind) (dealt_to members parts n) in
        let Made = λ (l : List ℕ). IsPermutation (l ++ behind) (dealt_to members parts (part + 1 + left)) in
        subst From (append_assoc done cs behind) (IsPermutation-trans ((done ++ cs) ++ behind) ((done ++ dealt) ++ behind) (dealt_to members parts (part + suc left)) here (subst To end (subst Made more next)))

    module _ (one_part : 1 ≤ parts) (few_zones : length zones ≤ 1024) where
      rise : AreMembers 1024 members
      rise = rises_to 0 members (length zones) 1024 few_zones (numbers-rise (λ c. is_needed t.plan.cond (chunk_at zones c)) (length zones))

      -- the chunks of all parts are the needed ones in some order
      pub all_needed : (place : ℕ) (all : List Partial) → AreCame place 0 parts (map Ok all) → Took place 0 parts → IsPermutation (chunks_from 0 parts) members
      all_needed place all came took =
          let To = λ (n : ℕ). IsPermutation (chunks_from 0 parts) (dealt_to members parts n) in
          let dealt = subst To (zero-add parts) (dealt_from place 0 parts all came took) in
          IsPermutation-trans (chunks_from 0 parts) (dealt_to members parts parts) members dealt (IsPermutation-sym members (dealt_to members parts parts) (all_dealt members parts (omega (arith, one_part)) rise))

      -- what they gathered may be joined
      long_enough : (place part left : ℕ) (all : List Partial) → AreCame place part left (map Ok all) → length all ≡ left
      long_enough place part zero [] came = refl
      long_enough place part zero (a ∷ all) came = absurd came
      long_enough place part (suc left) [] came = absurd came
      long_enough place part (suc left) (a ∷ all) came = ap suc (long_enough (place + 1) (part + 1) left all came.1)

      pub joinable : z.rows ≤ 2097152 → (place : ℕ) (all : List Partial) → AreCame place 0 parts (map Ok all) → Took place 0 parts → AreJoinable all
      joinable few_rows place all came took =
          let g = gathered place 0 parts all came took in
          let Number = λ (r : Numbered Cell). r.0 in
          let cs = chunks_from 0 parts in
          let long = sym (length-map (joined g.lists) Number) ∙ ap length g.numbers in
          let same = length_permutation (numbers_of_chunks z cs) (numbers_of_chunks z members) (mapped_in_order (chunk_numbers z) cs members (all_needed place all came took)) in
          let few = few_numbers z some members (rising_once members (is_rising 0 members 1024 rise)) in
          record {
            some = let n = long_enough place 0 parts all came in omega (arith, n, one_part);
            plan = t.plan;
            fit = All-from_recursion (FitsPlan t.plan) all g.fit;
            few = let counted = g.few in omega (arith, counted, long, same, few, few_rows);
          }

      -- ---- the answer

      ended_read : ReadsItsColumns (length z.kinds) t.plan → (place : ℕ) (all : List Partial) (rs : List Came) (a : Answer) → rs ≡ map Ok all → AreCame place 0 parts (map Ok all) → Took place 0 parts → IsAnswerOf rs a
          → IsAnswerRead o.held told z members t.plan a
      ended_read reads place all rs a are came took is =
          let g = gathered place 0 parts all came took in
          let p = t.plan in
          let lists = map (matching p) g.lists in
          let rows = joined g.lists in
          let fit = All-from_recursion (FitsPlan p) all g.fit in
          let apart = are_apart p tag all 0 g.lists g.tagged in
          let Passes = λ (r : Numbered Cell). matches p.cond r.1 in
          let over : (other : List (Numbered Cell)) → IsPermutation rows other → IsAnswerOver p (matching p other) a = λ other same.
          let From = λ (l : List (Numbered Cell)). IsPermutation l (matching p other) in
          is.over all are p lists (matching p other) fit g.stands apart (subst From (sym (matching_joined p g.lists)) (passing_in_order Passes rows other same)) in
          record {
            rows = rows;
            answer = over rows (IsPermutation-refl rows);
            shaped = g.shaped;
            held = λ table shaped holds.
                let cs = chunks_from 0 parts in
                let read = rows_of_chunks z.per cs table in
                let all_rows = rows_of_chunks z.per members table in
                let order = agree_in_order p.columns rows read all_rows (g.agree table shaped holds) (mapped_in_order (chunk_rows z.per table) cs members (all_needed place all came took)) in
                (answer_agrees (length z.kinds) p order.other all_rows a reads order.agree).same (over order.other order.same);
          }

      pub is_read : ReadsItsColumns (length z.kinds) t.plan → (place : ℕ) (rs : List Came) (a : Answer) → AreCame place 0 parts rs → Took place 0 parts → IsAnswerOf rs a → IsAnswerRead o.held told z members t.plan a
      is_read reads place rs a came took is = elim (all_or_stopped rs) [
        | inl all ↦ ended_read reads place all.0 rs a all.1 (subst (AreCame place 0 parts) all.1 came) took is
        | inr first ↦ stopped o.held told z members t.plan rs a first.0 first.1 is
      ]

-- Going through the policies: what was made so far, and what the runs that are left come to.
use Rattle.std.proofs.Common.{◌≡◌, ◌∙◌, ◌+◌, ◌++◌, ◌∷◌, [], ℕ, length, List, Option, Result, Ok, Err, arith, refl, sym, ap, subst, inl, inr}
use Rattle.std.specs.Prelude.{map, max}
use Rattle.std.proofs.lemmas.List.{append-nil, append_assoc}
use Rattle.command_words.specs.Options.{Request}
use Rattle.run_stops.specs.declared.stop.Stop.{Stop}
use Rattle.run_stops.specs.declared.stop.Stop.TheVariants as stop
use Rattle.run_inputs.specs.Ending.{AreInputs}
use Rattle.run_inputs.specs.declared.inputs.Inputs.{Inputs}
use Rattle.run_ends.specs.Devices.{DepotAt}
use Rattle.run_ends.specs.Running.{Text}
use Rattle.run_ends.specs.Compared.{AreRuns, followed}
use Rattle.run_ends.specs.Lines.{line_of}
use Rattle.run_ends.specs.Next.{EndsIn, IsNext}
use Rattle.run_ends.specs.Policies.{PolicyAt}
use Rattle.run_ends.specs.declared.policy_run.PolicyRun.{PolicyRun}

-- ---- what is written

max_zero : (n : ℕ) → max n 0 ≡ n
max_zero n = omega arith

zero_max : (n : ℕ) → max 0 n ≡ n
zero_max n = omega arith

no_text : (d : Result Text Stop) → followed (0, []) d ≡ d
no_text (Ok o) = ap (λ (n : ℕ). Ok (n, o.1)) (zero_max o.0)
no_text (Err s) = refl

followed_twice : (o p : Text) (d : Result Text Stop) → followed (max o.0 p.0, o.1 ++ p.1) d ≡ followed o (followed p d)
followed_twice o p (Ok e) = ap (λ (t : Text). Ok t) (ap (λ (n : ℕ). (n, (o.1 ++ p.1) ++ e.1)) (omega arith) ∙ ap (λ (text : List ℕ). (max o.0 (max p.0 e.0), text)) (append_assoc o.1 p.1 e.1))
followed_twice o p (Err s) = refl

-- ---- the runs

module _ (r : Request) (table batch : Option (List ℕ)) where
  -- WITH WHAT THE RUNS THAT ARE LEFT COME TO, behind those that were made, all come to what they should
  abbrev pub Continues : List PolicyAt → DepotAt → List PolicyAt → DepotAt → List PolicyRun → Text → Type 0
  Continues all start left at runs o = (new : DepotAt) (rest : List PolicyRun) (d : Result Text Stop) → AreRuns r table batch left at new rest d → AreRuns r table batch all start new (runs ++ rest) (followed o d)

  -- no run is made yet
  begins : (all : List PolicyAt) (start : DepotAt) → Continues all start all start [] (0, [])
  begins all start new rest d are = subst (AreRuns r table batch all start new rest) (sym (no_text d)) are

  pub begins_with : {A : Type 0} (f : A → PolicyAt) (xs left : List A) (start : DepotAt) (runs : List PolicyRun) (text : List ℕ)
      → left ≡ xs → runs ≡ [] → text ≡ [] → Continues (map f xs) start (map f left) start runs (0, text)
  begins_with f xs left start runs text same none empty = rw (same, none, empty) (begins (map f xs) start)

  -- one run more is made
  pub goes_on : (all : List PolicyAt) (start : DepotAt) (p : PolicyAt) (left : List PolicyAt) (at between : DepotAt) (runs runs_after : List PolicyRun) (o o_after : Text) (i : Inputs)
      → Continues all start (p ∷ left) at runs o → AreInputs r table batch i → IsNext i p at between runs o runs_after o_after → Continues all start left between runs_after o_after
  goes_on all start p left at between runs runs_after o o_after i continues given next new rest d are =
      let whole = continues new (next.run ∷ rest) (followed (next.status, line_of next.run) d) (inl (between, next.status, d, record { given = i; is_given = given; comes = next.made }, are, refl)) in
      let them : runs_after ++ rest ≡ runs ++ next.run ∷ rest = ap (λ rs. rs ++ rest) next.runs_are ∙ append_assoc runs (next.run ∷ []) rest in
      let text : followed o_after d ≡ followed o (followed (next.status, line_of next.run) d) = ap (λ (t : Text). followed t d) next.output_is ∙ followed_twice o (next.status, line_of next.run) d in
      rw (them, text) whole

  -- the work ends in the next run
  pub ends_in : (all : List PolicyAt) (start : DepotAt) (p : PolicyAt) (left : List PolicyAt) (at new : DepotAt) (runs runs_after : List PolicyRun) (o : Text) (d : Result Text Stop) (i : Inputs)
      → Continues all start (p ∷ left) at runs o → AreInputs r table batch i → EndsIn i p at new runs runs_after d → AreRuns r table batch all start new runs_after d
  ends_in all start p left at new runs runs_after o d i continues given (inl (s, is, them, hindered)) =
      let whole = continues new [] (Err s) (record { given = i; is_given = given; comes = hindered }) in
      rw (them, is, ← append-nil runs) whole
  ends_in all start p left at new runs runs_after o d i continues given (inr (run, is, them, cut)) =
      let whole = continues new (run ∷ []) (Err stop.Memory) (inr (refl, refl, record { given = i; is_given = given; comes = cut })) in
      rw (them, is) whole

  -- all runs are made
  pub all_made : (all : List PolicyAt) (start at : DepotAt) (runs : List PolicyRun) (o : Text) → Continues all start [] at runs o → AreRuns r table batch all start at runs (Ok o)
  all_made all start at runs o continues =
      let whole = continues at [] (Ok (0, [])) (refl, refl) in
      let text : followed o (Ok (0, [])) ≡ Ok o = ap (λ (n : ℕ). Ok (n, o.1 ++ [])) (max_zero o.0) ∙ ap (λ (text : List ℕ). Ok (o.0, text)) (append-nil o.1) in
      subst (AreRuns r table batch all start at runs) text (subst (λ rs. AreRuns r table batch all start at rs (followed o (Ok (0, [])))) (append-nil runs) whole)

  -- the next policy of a list
  pub next_of : {A : Type 0} (f : A → PolicyAt) (all : List PolicyAt) (start at : DepotAt) (runs : List PolicyRun) (o : Text) (x : A) (xs left : List A)
      → left ≡ x ∷ xs → Continues all start (map f left) at runs o → Continues all start (f x ∷ map f xs) at runs o
  next_of f all start at runs o x xs left is continues = subst (λ (l : List _). Continues all start (map f l) at runs o) is continues

  pub none_left : {A : Type 0} (f : A → PolicyAt) (all : List PolicyAt) (start at : DepotAt) (runs : List PolicyRun) (o : Text) (left : List A)
      → left ≡ [] → Continues all start (map f left) at runs o → Continues all start [] at runs o
  none_left f all start at runs o left is continues = subst (λ (l : List _). Continues all start (map f l) at runs o) is continues

-- ---- how many policies are left

pub one_less : {A : Type 0} {left : List A} (x : A) (after : List A) (n m : ℕ) → left ≡ x ∷ after → m + 1 ≡ n → length left ≡ n → length after ≡ m
one_less x after n m next less long = let e = sym (ap length next) ∙ long in omega (arith, e, less)

pub none_long : {A : Type 0} (xs : List A) (n : ℕ) → length xs ≡ n → n ≡ 0 → xs ≡ []
none_long [] n long none = refl
none_long (x ∷ xs) n long none = absurd (omega (arith, long, none))

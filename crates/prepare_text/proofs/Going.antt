-- What is left of a text and of its records, where they are known.
use Rattle.std.proofs.Common.{◌≡◌, ◌≤◌, ◌<◌, ℕ, true, false, List, [], ◌∷◌, ◌++◌, length, drop, Option, Some, None, refl, sym, ap, ◌∙◌, arith, inl, inr}
use Rattle.std.proofs.lemmas.Bool.{cases_Bool}
use Rattle.std.proofs.lemmas.Bool.Decides.{nat_tests}
use Rattle.std.proofs.lemmas.List.{drop_all}
use Rattle.std.specs.Io.KnownBytes.{IsAtEnd, Keeps, prepend_known}
use Rattle.std.specs.Prelude.{◌⊎◌, min, nat_le, option_map}
use Rattle.csv.specs.Machine.{ends_at_end}
use Rattle.csv.specs.Reading.{strip_bom}
use Rattle.csv.specs.declared.parser.Config.{Config}
use Rattle.prepare_text.proofs.Walking.{marked, unmarked}
use Rattle.prepare_text.specs.Source.{Ends, Goes, IsOver, Stays, Takes, has_mark, record_of}
use Rattle.prepare_text.specs.Walk.{Lined, Walk, at_begin, format, lined, text_records, walk_of}
use Rattle.prepare_text.specs.declared.place.Marks.{Marks}
use Rattle.prepare_text.specs.declared.walker.Walker.{Walker}

-- ---- texts

pub keeps-self : (a : Option (List ℕ)) → Keeps a a
keeps-self None = tt
keeps-self (Some xs) = refl

pub keeps-on : (a b c : Option (List ℕ)) → Keeps a b → Keeps b c → Keeps a c
keeps-on None b c k l = tt
keeps-on (Some xs) None c k l = absurd k
keeps-on (Some xs) (Some ys) None k l = absurd l
keeps-on (Some xs) (Some ys) (Some zs) k l = l ∙ k

pub keeps-nil : (a b : Option (List ℕ)) → Keeps (prepend_known [] a) b → Keeps a b
keeps-nil None b k = tt
keeps-nil (Some xs) None k = absurd k
keeps-nil (Some xs) (Some ys) k = k

pub end-nil : (a : Option (List ℕ)) (at : ℕ) (text : List ℕ) → text ≡ [] → at ≡ 0 → IsAtEnd a → IsAtEnd (prepend_known (drop at text) a)
end-nil None at text e z end = tt
end-nil (Some xs) at text e z end = rw (e, z, end) refl

pub marked-held : (known : Option (List ℕ)) (at : ℕ) (text : List ℕ) → at ≡ 0 → has_mark text ≡ true
    → Keeps (option_map strip_bom (prepend_known (drop at text) known)) (prepend_known (drop 3 text) known)
marked-held None at text z e = tt
marked-held (Some more) at text z e = rw z (sym (marked text more e))

pub unmarked-held : (known : Option (List ℕ)) (at : ℕ) (text : List ℕ) → at ≡ 0 → has_mark text ≡ false → (3 ≤ length text) ⊎ IsAtEnd known
    → Keeps (option_map strip_bom (prepend_known (drop at text) known)) (prepend_known (drop at text) known)
unmarked-held None at text z e front = tt
unmarked-held (Some more) at text z e front = rw z (sym (unmarked text more e front))

pub cut-at : (at : ℕ) (xs : List ℕ) → drop (min at (length xs)) xs ≡ drop at xs
cut-at at xs = elim (cases_Bool (nat_le at (length xs))) [
  | inl so ↦
      let le : at ≤ length xs = grind (arith, nat_tests) in
      let m : min at (length xs) ≡ at = omega (arith, le) in
      rw m refl
  | inr not ↦
      let lt : length xs < at = grind (arith, nat_tests) in
      let m : min at (length xs) ≡ length xs = omega (arith, lt) in
      rw m (drop_all (length xs) xs (omega arith) ∙ sym (drop_all at xs (omega (arith, lt))))
]

-- ---- records

pub stays-on : (a b c : Option (List Lined)) → Stays a b → Stays b c → Stays a c
stays-on None b c k l = tt
stays-on (Some xs) None c k l = absurd k
stays-on (Some xs) (Some ys) None k l = absurd l
stays-on (Some xs) (Some ys) (Some zs) k l = l ∙ k

pub stays-self : (a : Option (List Lined)) → Stays a a
stays-self None = tt
stays-self (Some xs) = refl

pub stays-takes : (a b c : Option (List Lined)) (r : Lined) → Stays a b → Takes b r c → Takes a r c
stays-takes None b c r k l = tt
stays-takes (Some xs) None c r k l = absurd k
stays-takes (Some xs) (Some ys) None r k l = absurd l
stays-takes (Some xs) (Some ys) (Some zs) r k l = sym k ∙ l

pub stays-over : (a b : Option (List Lined)) → Stays a b → IsOver b → IsOver a
stays-over None b k l = tt
stays-over (Some xs) None k l = absurd k
stays-over (Some xs) (Some ys) k l = sym k ∙ l

pub keeps-stays : (cfg : Config) (w : Walk) (a b : Option (List ℕ)) → Keeps a b → Stays (option_map (lined cfg w) a) (option_map (lined cfg w) b)
keeps-stays cfg w None b k = tt
keeps-stays cfg w (Some xs) None k = absurd k
keeps-stays cfg w (Some xs) (Some ys) k = ap (lined cfg w) k

pub ends-take : (old new : Walker) (f g : List (List ℕ)) (text rest : List ℕ) (known : Option (List ℕ)) → new.marks ≡ old.marks → Ends old f text new g rest
    → Takes (option_map (lined (format old.marks) (walk_of old f)) (prepend_known text known)) (record_of new.lines.begun g)
    (option_map (lined (format new.marks) (walk_of new [])) (prepend_known rest known))
ends-take old new f g text rest None m e = tt
ends-take old new f g text rest (Some more) m e = rw m (e more)

pub goes-stay : (old new : Walker) (f g : List (List ℕ)) (text : List ℕ) (known : Option (List ℕ)) → new.marks ≡ old.marks → Goes old f text new g []
    → Stays (option_map (lined (format old.marks) (walk_of old f)) (prepend_known text known)) (option_map (lined (format new.marks) (walk_of new g)) known)
goes-stay old new f g text None m e = tt
goes-stay old new f g text (Some more) m e = rw m (sym (e more))

-- the end of the text between two records
pub over-end : (cfg : Config) (w : Walk) (known : Option (List ℕ)) → IsAtEnd known → ends_at_end w.state ≡ false → IsOver (option_map (lined cfg w) known)
unfolding lined
over-end cfg w None end e = tt
over-end cfg w (Some xs) end e = rw (end, e) refl

-- the end of the text in a record
pub last-takes : (cfg : Config) (w next : Walk) (known : Option (List ℕ)) → IsAtEnd known → ends_at_end w.state ≡ true → ends_at_end next.state ≡ false
    → Takes (option_map (lined cfg w) known) (record_of w.lines.begun (w.fields ++ (w.field ∷ []))) (option_map (lined cfg next) known)
unfolding lined
last-takes cfg w next None end e n = tt
last-takes cfg w next (Some xs) end e n = rw (end, e, n) refl

-- the begin of a text
pub begin-stays : (marks : Marks) (w : Walker) (known held front : Option (List ℕ)) → w.marks ≡ marks → walk_of w [] ≡ at_begin
    → Keeps (prepend_known [] known) held → Keeps (option_map strip_bom held) front
    → Stays (option_map (text_records marks) known) (option_map (lined (format w.marks) (walk_of w [])) front)
begin-stays marks w None held front m b k l = tt
begin-stays marks w (Some xs) None front m b k l = absurd k
begin-stays marks w (Some xs) (Some ys) None m b k l = absurd l
begin-stays marks w (Some xs) (Some ys) (Some zs) m b k l = rw (m, b, l, k) refl

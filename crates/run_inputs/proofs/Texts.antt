-- A text that was made or read, and what stands for it where it wasn't.
use Rattle.std.proofs.Common.{◌≡◌, ◌≤◌, ◌<◌, ◌+◌, ◌∙◌, ℕ, Bool, true, false, List, [], Option, Some, None, Ok, Err, length, refl, sym, ap, arith, cond, inl, inr, replicate}
use Rattle.std.specs.Prelude.{nat_lt}
use Rattle.std.proofs.lemmas.Bool.Decides.{nat_tests}
use Rattle.std.proofs.lemmas.List.{length-replicate}
use Rattle.coop_outside.specs.Held.{Held, Holds, Lacks, ReadFails}
use Rattle.run_stops.specs.declared.stop.Stop.{Stop}
use Rattle.run_stops.specs.declared.stop.Stop.TheVariants as stop
use Rattle.run_inputs.specs.Ending.{IsReadAs, IsTextOf, IsTextRead}
use Rattle.run_inputs.specs.Order.{past}
use Rattle.run_inputs.specs.Sources.{Source, made, stored, text_in}

pub not-past : (limit n : ℕ) (s : Stop) → n ≤ limit → past limit n s ≡ None
not-past limit n s h = go (nat_lt limit n) refl
  where
    go : (b : Bool) → nat_lt limit n ≡ b → cond b (Some s) None ≡ None
    go true e = absurd (grind (arith, nat_tests))
    go false e = refl

pub is-past : (limit n : ℕ) (s : Stop) → limit < n → past limit n s ≡ Some s
is-past limit n s h = go (nat_lt limit n) refl
  where
    go : (b : Bool) → nat_lt limit n ≡ b → cond b (Some s) None ≡ Some s
    go true e = refl
    go false e = absurd (grind (arith, nat_tests))

-- what was read is what is told
read-as : (held : Held) (name bytes : List ℕ) → ((b : List ℕ) → Holds held name b → bytes ≡ b) → (Lacks held name → ⊥) → IsReadAs held name (Some bytes)
read-as held name bytes same there None h = absurd (there h)
read-as held name bytes same there (Some b) h = ap Some (sym (same b h))

-- there is a text that agrees with what is told
agrees : (held : Held) (name : List ℕ) → (t : Option (List ℕ)) × IsReadAs held name t
agrees None name = (Some [], λ t h. cc h)
agrees (Some files) name = go (files name) refl
  where
    go : (o : Option (List ℕ)) → files name ≡ o → (t : Option (List ℕ)) × IsReadAs (Some files) name t
    go None e = (None, ap Some e)
    go (Some b) e = (Some b, λ t h. let same : files name ≡ t = cc h in sym same ∙ e)

pub some-text : (held : Held) (source : Source) → (t : Option (List ℕ)) × IsTextOf held source t
some-text held (made text) = (Some text, refl)
some-text held (stored name) = agrees held name

-- a text that is longer than a limit agrees with what is told, where what is told is longer
agrees-long : (held : Held) (name : List ℕ) (limit : ℕ) → ((b : List ℕ) → Holds held name b → limit < length b) → (Lacks held name → ⊥)
    → (text : List ℕ) × IsReadAs held name (Some text) × (limit < length text)
agrees-long None name limit long there = (replicate (limit + 1) 0, (λ t h. cc h), omega (arith, length-replicate {A = ℕ} (limit + 1) 0))
agrees-long (Some files) name limit long there = go (files name) refl
  where
    go : (o : Option (List ℕ)) → files name ≡ o → (text : List ℕ) × IsReadAs (Some files) name (Some text) × (limit < length text)
    go None e = absurd (there (ap Some e))
    go (Some b) e = (b, (λ t h. let same : files name ≡ t = cc h in sym same ∙ e), long b (ap Some e))

pub made-ok : (held : Held) (text bytes : List ℕ) (fault : Stop) (why : List ℕ → Option Stop) (before now : ℕ) → why text ≡ None → bytes ≡ text
    → IsTextRead held (made text) fault why before now (Ok bytes)
made-ok held text bytes fault why before now passes same = (Some text, refl, (passes, ap Some (sym same)))

pub memory-read : (held : Held) (source : Source) (fault : Stop) (why : List ℕ → Option Stop) (before now : ℕ) → IsTextRead held source fault why before now (Err stop.Memory)
memory-read held source fault why before now = let (t, is) = some-text held source in (t, is, inr (inl refl))

pub stored-ok : (held : Held) (name bytes : List ℕ) (fault : Stop) (why : List ℕ → Option Stop) (before now : ℕ) → why bytes ≡ None
    → ((b : List ℕ) → Holds held name b → bytes ≡ b) → (Lacks held name → ⊥) → IsTextRead held (stored name) fault why before now (Ok bytes)
stored-ok held name bytes fault why before now passes same there = (Some bytes, read-as held name bytes same there, (passes, refl))

pub stored-long : (held : Held) (name : List ℕ) (limit : ℕ) (long fault : Stop) (before now : ℕ) → ((b : List ℕ) → Holds held name b → limit < length b) → (Lacks held name → ⊥)
    → IsTextRead held (stored name) fault (λ t. past limit (length t) long) before now (Err long)
stored-long held name limit long fault before now passes there =
    let (text, is, past_it) = agrees-long held name limit passes there in (Some text, is, inl (is-past limit (length text) long past_it))

pub stored-fault : (held : Held) (name : List ℕ) (fault : Stop) (why : List ℕ → Option Stop) (before now : ℕ) → ReadFails held name before now
    → IsTextRead held (stored name) fault why before now (Err fault)
stored-fault held name fault why before now (inl rose) = let (t, is) = agrees held name in (t, is, inr (inr (refl, rose)))
stored-fault held name fault why before now (inr lacks) = (None, lacks, inl refl)

-- where the shelf tells, the text is what it tells
pub text-told : (source : Source) (files : List ℕ → Option (List ℕ)) (t : Option (List ℕ)) → IsTextOf (Some files) source t → t ≡ text_in source files
text-told (made text) files t is = is
text-told (stored name) files None is = cc is
text-told (stored name) files (Some text) is = sym (is (files name) refl)

-- What the words ask for, by what clap reads of them.
use Rattle.std.proofs.Common.{◌≡◌, ◌∙◌, ap, refl, sym, subst, if◌then◌else◌, Bool, true, List, [], ◌∷◌, Option, Some, None, ◌++◌, codes, drop, false, is_some, string_bytes, String, true≢false}
use Rattle.std.specs.Option.{option_and_then, option_map}
use Rattle.std.specs.declared.alloc.Global.{Global}
use Rattle.clap.specs.Faults.{fault_of}
use Rattle.clap.specs.Kinds.{Kinds}
use Rattle.clap.specs.Simple.{matches_of, subcommand_of}
use Rattle.clap.specs.Walk.{Row, Text, first_of, rows_of}
use Rattle.clap.specs.Matches.{first_value}
use Rattle.clap.specs.declared.parser.matches.Found.{Found}
use Rattle.clap.proofs.WalkLemmas.{first_value-rows}
use Rattle.command_words.specs.Matched.{texts}
use Rattle.command_words.specs.Options.{Request, options_of}
use Rattle.command_words.specs.declared.call.Call.TheVariants.{RunBoxed}
use Rattle.inspect_words.specs.Asked.{AskedIs, IsRefusedBy, IsRefusedFor, IsRunRefused, IsSaidOf, asked_by, asked_in, asked_of, draw_from, draw_is, draw_of, faults_in, form_of, judge_is, judge_of, names_story, parted, story_for, story_from, story_in, story_of, story_with}
use Rattle.inspect_words.specs.Command.{inspect, story}
use Rattle.inspect_words.specs.Windows.{window_of}
use Rattle.inspect_words.specs.declared.form.Form.{Form}
use Rattle.inspect_words.specs.declared.window.Window.{Window}
use Rattle.inspect_words.specs.declared.refused.Refused.{Refused}
use Rattle.inspect_words.specs.declared.refused.Refused.TheVariants as refused

behind : (words : List (String Global)) → texts (drop 1 words) ≡ drop 1 (texts words)
behind [] = refl
behind (w ∷ ws) = refl

abbrev pub both_of : {X : Type 0} → (X → Text) → (X → List Row) → X → Text × List Row
both_of f g x = (f x, g x)

-- the name and the rows of the subcommand, apart and together
pub joined : {X : Type 0} (f : X → Text) (g : X → List Row) (o : Option X) (name : Text) (rows : List Row) → Some name ≡ option_map f o
    → Some rows ≡ option_map (λ (p : Text × List Row). p.1) (option_map (both_of f g) o) → option_map (both_of f g) o ≡ Some (name, rows)
joined f g None name rows a b = cc
joined f g (Some x) name rows a b = cc

pub lacks : {X : Type 0} (f : X → Text) (g : X → List Row) (o : Option X) → false ≡ is_some o → option_map (both_of f g) o ≡ None
lacks f g None none = refl
lacks f g (Some x) none = absurd (true≢false (sym none))

pub asks : (words behind_name : List (String Global)) (name : Text) (rows : List Row) → fault_of inspect (texts words) ≡ [] → subcommand_of inspect (texts words) ≡ Some (name, rows)
    → behind_name ≡ drop 1 words → asked_in (fault_of inspect (texts words)) (texts words) ≡ asked_by name rows (texts behind_name)
asks words behind_name name rows none met is =
    ap (λ k. asked_in k (texts words)) none ∙ ap (option_and_then (λ s. asked_by s.0 s.1 (drop 1 (texts words)))) met
    ∙ ap (asked_by name rows) (sym (behind words) ∙ ap texts (sym is))

pub asks_nothing : (words : List (String Global)) → fault_of inspect (texts words) ≡ [] → subcommand_of inspect (texts words) ≡ None → asked_in (fault_of inspect (texts words)) (texts words) ≡ None
asks_nothing words none met = ap (λ k. asked_in k (texts words)) none ∙ ap (option_and_then (λ s. asked_by s.0 s.1 (drop 1 (texts words)))) met

pub refused_by : (faults : Kinds) (made asked : Option AskedIs) (e : Refused) → faults ≡ [] → made ≡ asked → IsRunRefused asked e → IsRefusedBy faults made e
refused_by faults made asked (refused.Said error) none is r = absurd r
refused_by faults made asked (refused.Run which) none is r = (none, is ∙ r)
refused_by faults made asked refused.Memory none is r = tt

pub said_by : (faults : Kinds) (made : Option AskedIs) (e : Refused) → IsSaidOf faults e → IsRefusedBy faults made e
said_by faults made (refused.Said error) said = said
said_by faults made (refused.Run which) said = absurd said
said_by faults made refused.Memory said = tt

-- the words behind `judge --story`

behind_two : (words : List (String Global)) → texts (drop 2 words) ≡ drop 2 (texts words)
behind_two [] = refl
behind_two (w ∷ []) = refl
behind_two (w ∷ v ∷ ws) = refl

pub story_words : (words behind : List (String Global)) → behind ≡ drop 2 words → texts behind ≡ drop 2 (texts words)
story_words words behind is = ap texts is ∙ behind_two words

abbrev asked_story : List Text → Option AskedIs
asked_story words = story_in (fault_of story words) words

story_asks : (words : List Text) (behind : List Text) → names_story words ≡ true → behind ≡ drop 2 words → asked_of words ≡ story_in (fault_of story behind) behind
story_asks words behind names is = by (names_story words) names ∙ ap asked_story (sym is)
  where
    by : (b : Bool) → b ≡ true → (if b then asked_story (drop 2 words) else asked_in (fault_of inspect words) words) ≡ asked_story (drop 2 words)
    by true e = refl
    by false e = absurd cc

plainly_asks : (words : List Text) → names_story words ≡ false → asked_of words ≡ asked_in (fault_of inspect words) words
plainly_asks words names = by (names_story words) names
  where
    by : (b : Bool) → b ≡ false → (if b then asked_story (drop 2 words) else asked_in (fault_of inspect words) words) ≡ asked_in (fault_of inspect words) words
    by true e = absurd cc
    by false e = refl

-- so it is of each that is asked for
pub story_ok : (words behind : List Text) (a : AskedIs) → names_story words ≡ true → behind ≡ drop 2 words → story_in (fault_of story behind) behind ≡ Some a → asked_of words ≡ Some a
story_ok words behind a names is found = story_asks words behind names is ∙ found

pub plainly_ok : (words : List Text) (a : AskedIs) → names_story words ≡ false → asked_in (fault_of inspect words) words ≡ Some a → asked_of words ≡ Some a
plainly_ok words a names found = plainly_asks words names ∙ found

story_faults : (words : List Text) (behind : List Text) → names_story words ≡ true → behind ≡ drop 2 words → faults_in words ≡ fault_of story behind
story_faults words behind names is = by (names_story words) names ∙ ap (fault_of story) (sym is)
  where
    by : (b : Bool) → b ≡ true → (if b then fault_of story (drop 2 words) else fault_of inspect words) ≡ fault_of story (drop 2 words)
    by true e = refl
    by false e = absurd cc

plain_faults : (words : List Text) → names_story words ≡ false → faults_in words ≡ fault_of inspect words
plain_faults words names = by (names_story words) names
  where
    by : (b : Bool) → b ≡ false → (if b then fault_of story (drop 2 words) else fault_of inspect words) ≡ fault_of inspect words
    by true e = absurd cc
    by false e = refl

refused_same : (faults k : Kinds) (made asked : Option AskedIs) (e : Refused) → k ≡ faults → asked ≡ made → IsRefusedBy faults made e → IsRefusedBy k asked e
refused_same faults k made asked e same also r =
    subst (λ (f : Kinds). IsRefusedBy f asked e) (sym same) (subst (λ (o : Option AskedIs). IsRefusedBy faults o e) (sym also) r)

pub story_refused : (words behind : List Text) (e : Refused) → names_story words ≡ true → behind ≡ drop 2 words → IsRefusedBy (fault_of story behind) (story_in (fault_of story behind) behind) e
    → IsRefusedFor words e
story_refused words behind e names is r = refused_same _ (faults_in words) _ (asked_of words) e (story_faults words behind names is) (story_asks words behind names is) r

pub plainly_refused : (words : List Text) (e : Refused) → names_story words ≡ false → IsRefusedBy (fault_of inspect words) (asked_in (fault_of inspect words) words) e → IsRefusedFor words e
plainly_refused words e names r = refused_same _ (faults_in words) _ (asked_of words) e (plain_faults words names) (plainly_asks words names) r

-- what clap reads behind `judge --story`
pub story_met : (words : List Text) (rows : List Row) → fault_of story words ≡ [] → rows ≡ matches_of story words → story_in (fault_of story words) words ≡ story_of rows
story_met words rows none is = ap (λ k. story_in k words) none ∙ ap story_of (sym is)

pub story_told : (words : List Text) (rows : List Row) (a : AskedIs) → fault_of story words ≡ [] → rows ≡ matches_of story words → story_of rows ≡ Some a → story_in (fault_of story words) words ≡ Some a
story_told words rows a none is found = story_met words rows none is ∙ found

pub settings : (f : Found) (o : Option Text) → o ≡ first_value f (codes "SETTING") → story_of (rows_of f) ≡ option_and_then (λ x. story_for x (rows_of f)) o
settings f o is = ap (option_and_then (λ x. story_for x (rows_of f))) (sym (first_value-rows f (codes "SETTING")) ∙ sym is)

pub stories : (f : Found) (s : Text) (o policy dealt : Option Text) → o ≡ first_value f (codes "STORY") → policy ≡ first_value f (codes "policy") → dealt ≡ first_value f (codes "dealt")
    → story_for s (rows_of f) ≡ option_and_then (λ t. story_with s t policy dealt) o
stories f s o policy dealt is left also =
    ap (option_and_then (story_from s (rows_of f))) (sym (first_value-rows f (codes "STORY")) ∙ sym is)
    ∙ ap (λ x. option_and_then (λ t. story_with s t x (first_of (codes "dealt") (rows_of f))) o) (sym (first_value-rows f (codes "policy")) ∙ sym left)
    ∙ ap (λ x. option_and_then (λ t. story_with s t policy x) o) (sym (first_value-rows f (codes "dealt")) ∙ sym also)

parted_end : (before : List (String Global)) (x : String Global) → parted (texts (before ++ x ∷ [])) ≡ Some (texts before, string_bytes x)
parted_end [] x = refl
parted_end (w ∷ []) x = refl
parted_end (w ∷ v ∷ ws) x = ap (option_map (λ (p : List Text × Text). (string_bytes w ∷ p.0, p.1))) (parted_end (v ∷ ws) x)

-- what the words of a run and OUTPUT behind them ask for
pub judges : (words before : List (String Global)) (x : String Global) (o : Option Request) → words ≡ before ++ x ∷ [] → options_of RunBoxed (texts before) ≡ o
    → judge_of (texts words) ≡ option_map (λ r. judge_is r (string_bytes x)) o
judges words before x o is run =
    ap (λ ws. judge_of (texts ws)) is ∙ ap (option_and_then (λ (p : List Text × Text). option_map (λ r. judge_is r p.1) (options_of RunBoxed p.0))) (parted_end before x)
    ∙ ap (option_map (λ r. judge_is r (string_bytes x))) run

pub draws : (f : Found) (o : Option Text) → o ≡ first_value f (codes "OUTPUT") → draw_of (rows_of f) ≡ option_and_then (λ x. draw_from x (rows_of f)) o
draws f o is = ap (option_and_then (λ x. draw_from x (rows_of f))) (sym (first_value-rows f (codes "OUTPUT")) ∙ sym is)

-- which entries are to be drawn, and as what
pub windows : (f : Found) (o : Text) (from to html : Option Text) (w : Option Window) (form : Form) → from ≡ first_value f (codes "from") → to ≡ first_value f (codes "to")
    → html ≡ first_value f (codes "html") → w ≡ window_of from to → form ≡ form_of html → draw_from o (rows_of f) ≡ option_map (λ w. draw_is o w form) w
windows f o from to html w form begins ends named is formed =
    ap (λ x. option_map (λ w. draw_is o w (form_of (first_of (codes "html") (rows_of f)))) (window_of x (first_of (codes "to") (rows_of f)))) (sym (first_value-rows f (codes "from")) ∙ sym begins)
    ∙ ap (λ x. option_map (λ w. draw_is o w (form_of (first_of (codes "html") (rows_of f)))) (window_of from x)) (sym (first_value-rows f (codes "to")) ∙ sym ends)
    ∙ ap (option_map (λ w. draw_is o w (form_of (first_of (codes "html") (rows_of f))))) (sym is)
    ∙ ap (λ k. option_map (λ w. draw_is o w k) w) (ap form_of (sym (first_value-rows f (codes "html")) ∙ sym named) ∙ sym formed)

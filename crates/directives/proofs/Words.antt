-- The parameters of a reserved directive, word by word.
use Prim.Native.Nat.{ℕ}
use mathlib.Core.Bool.{Bool, ◌&&◌, ◌||◌, false, not, true}
use mathlib.Core.List.{List, [], ◌++◌, ◌∷◌}
use mathlib.Core.Path.{◌∙◌, ◌≡◌, refl, sym}
use Rattle.yaml_text.specs.declared.Mark.{Mark}
use Rattle.yaml_text.specs.Char.{space}
use Rattle.yaml_text.specs.Class.{is_blank, is_blank_or_breakz, is_bom, is_break, is_breakz, is_non_space, is_z, none_left, peek}
use Rattle.yaml_text.specs.Mark.{Run, along, before_run, here, look, nothing_at, run_of}
use Rattle.yaml_text.specs.MarkLaws.{run_of_more, run_of_stop}
use Rattle.yaml_text.specs.Pick.{pick}
use Rattle.yaml_text.specs.Test.{both_true, by_test, true_false}
use Rattle.yaml_lexeme.specs.Directive.{parameters}
use Rattle.yaml_lexeme.specs.Gap.{blanks}
use Rattle.yaml_lexeme.specs.Turns.{blanks_more, blanks_stop, parameters_blank, parameters_more, parameters_stop}

pub nonspace_end : is_non_space 0 ≡ false
unfolding is_non_space is_blank_or_breakz is_breakz is_z is_break is_blank is_bom
nonspace_end = refl

no_blank : (c : ℕ) → is_non_space c ≡ true → is_blank c ≡ false
unfolding is_non_space is_blank_or_breakz
no_blank c e = by_or (is_blank c) (is_breakz c) (both_true (not (is_blank c || is_breakz c)) (not (is_bom c)) e).0
  where
    by_or : (a b : Bool) → not (a || b) ≡ true → a ≡ false
    by_or true b f = true_false (sym f)
    by_or false b f = refl

-- where a word or blanks end
module _ (f : ℕ → Bool) (z : f 0 ≡ false) where
  pub run_of_end : (m : Mark) (cs : List ℕ) → f (look (run_of f m cs).place) ≡ false
  unfolding run_of
  run_of_end m [] = z
  run_of_end m (c ∷ cs) = by_test (f c) (λ e. rw (run_of_more f m c cs e) (run_of_end (along m) cs)) (λ e. rw (run_of_stop f m c cs e) e)

  pub run_of_none : (m : Mark) (cs : List ℕ) → none_left (run_of f m cs).text ≡ true → f (peek cs 0) ≡ false
  unfolding run_of none_left
  run_of_none m [] n = z
  run_of_none m (c ∷ cs) n = by_test (f c) (λ e. true_false (sym (rw (run_of_more f m c cs e) at n))) (λ e. e)

  pub run_of_some : (m : Mark) (cs : List ℕ) → none_left (run_of f m cs).text ≡ false → f (peek cs 0) ≡ true
  unfolding run_of none_left
  run_of_some m [] n = true_false n
  run_of_some m (c ∷ cs) n = by_test (f c) (λ e. e) (λ e. true_false (rw (run_of_stop f m c cs e) at n))

pub blanks_end : (m : Mark) (cs : List ℕ) → is_blank (look (blanks m cs)) ≡ false
unfolding blanks is_blank
blanks_end m [] = refl
blanks_end m (c ∷ cs) = by_test (is_blank c) (λ e. rw (blanks_more m c cs e) (blanks_end (along m) cs)) (λ e. rw (blanks_stop m c cs e) e)

-- a word that is gone into
inside : (m : Mark) (cs : List ℕ)
    → let w = run_of is_non_space m cs in parameters true false m cs ≡ before_run w.text (parameters true false w.place.mark w.place.rest)
unfolding run_of
inside m [] = refl
inside m (c ∷ cs) =
    by_test (is_non_space c)
    (λ e. rw (run_of_more is_non_space m c cs e) (parameters_more true false m c cs (no_blank c e) e ∙ rw (inside (along m) cs)))
    (λ e. rw (run_of_stop is_non_space m c cs e))

-- a word, behind a space if one came before it
pub join_word : (s : Bool) (m : Mark) (cs : List ℕ) → none_left (run_of is_non_space m cs).text ≡ false
    → let w = run_of is_non_space m cs in
    parameters s s m cs ≡ before_run (pick s (space ∷ []) [] ++ w.text) (parameters true false w.place.mark w.place.rest)
unfolding run_of none_left
join_word s m [] n = true_false n
join_word s m (c ∷ cs) n =
    let w = run_of is_non_space (along m) cs in
    by_test (is_non_space c)
    (λ e. rw (run_of_more is_non_space m c cs e)
    (parameters_more s s m c cs (no_blank c e) e ∙ rw (inside (along m) cs) (joined s w.text (parameters true false w.place.mark w.place.rest))))
    (λ e. true_false (rw (run_of_stop is_non_space m c cs e) at n))
  where
    joined : (s : Bool) (t : List ℕ) (r : Run)
        → before_run (pick (s && s) (space ∷ c ∷ []) (c ∷ [])) (before_run t r) ≡ before_run (pick s (space ∷ []) [] ++ c ∷ t) r
    joined true t r = refl
    joined false t r = refl

-- the blanks behind a word
through : (m : Mark) (cs : List ℕ) → let q = blanks m cs in parameters true true m cs ≡ parameters true true q.mark q.rest
unfolding blanks
through m [] = refl
through m (c ∷ cs) =
    by_test (is_blank c)
    (λ e. rw (blanks_more m c cs e) (parameters_blank true true m c cs e ∙ through (along m) cs))
    (λ e. rw (blanks_stop m c cs e))

pub join_blanks : (m : Mark) (cs : List ℕ) → is_non_space (peek cs 0) ≡ false
    → let q = blanks m cs in parameters true false m cs ≡ parameters true true q.mark q.rest
unfolding blanks parameters
join_blanks m [] n = refl
join_blanks m (c ∷ cs) n =
    by_test (is_blank c)
    (λ e. rw (blanks_more m c cs e) (parameters_blank true false m c cs e ∙ through (along m) cs))
    (λ e. rw (blanks_stop m c cs e) (parameters_stop true false m c cs e n ∙ sym (parameters_stop true true m c cs e n)))

-- the blanks before the first
pub first_blanks : (b : Bool) (m : Mark) (cs : List ℕ) → let q = blanks m cs in parameters false b m cs ≡ parameters false false q.mark q.rest
unfolding blanks parameters
first_blanks b m [] = refl
first_blanks b m (c ∷ cs) =
    by_test (is_blank c)
    (λ e. rw (blanks_more m c cs e) (parameters_blank false b m c cs e ∙ first_blanks true (along m) cs))
    (λ e. rw (blanks_stop m c cs e) (by_test (is_non_space c)
    (λ f. parameters_more false b m c cs e f ∙ sym (parameters_more false false m c cs e f))
    (λ f. parameters_stop false b m c cs e f ∙ sym (parameters_stop false false m c cs e f))))

-- no word is left
pub join_none : (s : Bool) (m : Mark) (cs : List ℕ) → is_blank (peek cs 0) ≡ false → is_non_space (peek cs 0) ≡ false → parameters s s m cs ≡ nothing_at (here m cs)
unfolding parameters
join_none s m [] e f = refl
join_none s m (c ∷ cs) e f = parameters_stop s s m c cs e f

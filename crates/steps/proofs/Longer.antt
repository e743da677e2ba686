-- A step over more words than the stacks: what it makes of the first is what it makes of all, and the rest stays.
use Prim.Native.Nat.{◌<◌, ◌≤◌, ℕ}
use Rattle.std.specs.Prelude.{Result, Ok, Err}
use mathlib.Core.Bool.{Bool}
use mathlib.Core.List.{List, ◌++◌}
use mathlib.Core.Path.{◌≡◌, refl, sym}
use native.Mathlib.Omega.{arith}
use lib.ListN.{drop, length, take}
use Rattle.std.proofs.Common.{inl, inr}
use Rattle.std.proofs.lemmas.Bool.{cases_lt}
use Rattle.yaml_text.specs.declared.Mark.{Mark}
use Rattle.yaml_text.specs.declared.Refusal.{Refusal}
use Rattle.yaml_text.specs.Refusal.{Read, refused}
use Rattle.yaml_scan.specs.declared.Choice.{Choice}
use Rattle.yaml_scan.specs.declared.Choice.TheVariants.{AtAnchor, AtBlock, AtByteOrderMark, AtColon, AtComma, AtDash, AtDirective, AtEnd, AtMarker, AtPlain, AtQuestion, AtQuoted, AtTag, BelowIndent, Closes, Opens, Stray}
use Rattle.yaml_scan.specs.declared.Limits.{Limits}
use Rattle.yaml_scan.specs.Fetch.{fetch, fetch_next}
use Rattle.yaml_scan.specs.State.{News}
use Rattle.stacks.specs.Stack.{entry_words, stack_words}
use Rattle.stacks.proofs.Longer.{Longer}
use Rattle.stacks.proofs.Rolls.{refused_got}
use Rattle.events.specs.declared.Counts.{Counts}
use Rattle.events.specs.Event.{laid_news}
use Rattle.states.specs.declared.Fetched.{Fetched}
use Rattle.states.specs.declared.Fetched.TheVariants.{Ends, Goes}
use Rattle.states.specs.declared.State.{State}
use Rattle.states.specs.Answer.{ready_key}
use Rattle.states.specs.Fetch.{Fetches, fetched_seen, words_left}
use Rattle.states.specs.State.{state_of}
use Rattle.states.proofs.Longer.{fetches_longer, first_longer, ready_first, removed_longer, saved_longer, state_longer}
use Rattle.brackets.proofs.Longer.{bracket_longer, comma_longer, start_no_room}
use Rattle.indicators.proofs.Longer.{colon_longer, dash_longer, question_longer}
use Rattle.steps.specs.Step.{Chosen, Steps, choice_words}

-- there is a level more, if one is to be opened
abbrev HasRoom : Choice → State → Type 0
HasRoom c s = (sequence : Bool) → c ≡ Opens sequence → s.flow_level < 255

module _ {x a b : List ℕ} (h : Longer x a b) (limits : Limits) (count : ℕ) (s : State) (flow : s.flow_level ≤ 255) (deep : s.indents.depth ≤ entry_words) where
  choice_longer : (c : Choice) → HasRoom c s → Longer x (choice_words limits c a count s) (choice_words limits c b count s)
  choice_longer AtEnd k = h
  choice_longer AtDirective k = removed_longer h s flow
  choice_longer AtByteOrderMark k = removed_longer h s flow
  choice_longer BelowIndent k = h
  choice_longer Stray k = h
  choice_longer (AtMarker starts) k = removed_longer h s flow
  choice_longer (Opens sequence) k = bracket_longer h s deep (k sequence refl) sequence count
  choice_longer (Closes sequence) k = h
  choice_longer AtComma k = comma_longer h s flow
  choice_longer AtDash k = dash_longer h limits s flow deep
  choice_longer AtQuestion k = question_longer h limits s flow deep
  choice_longer AtColon k = colon_longer h limits s flow deep
  choice_longer AtTag k = saved_longer h s flow deep count
  choice_longer AtPlain k = saved_longer h s flow deep count
  choice_longer (AtAnchor alias) k = saved_longer h s flow deep count
  choice_longer (AtBlock literal) k = saved_longer h s flow deep count
  choice_longer (AtQuoted single) k = saved_longer h s flow deep count

-- what is not refused is no refusal of the definition
not_refused : {P : Type 0} {limits : Limits} {text a e w : List ℕ} {n : Counts} {s : State} {d : Read News} {k : ℕ} {m : Mark} (f : Fetched)
    → Fetches limits text a e w n s d (Ok f) → d ≡ refused k m → P
unfolding fetched_seen laid_news
not_refused (Goes v t) f q = refused_got (sym (rw q at f.same))
not_refused (Ends v) f q = refused_got (sym (rw q at f.same))

-- what is chosen with all the words is so with the first
pub chosen_first : {limits : Limits} {text : List ℕ} (a : List ℕ) {used : ℕ} {s : State} {c : Choice} → Chosen limits text a used s c → Chosen limits text (take stack_words a) used s c
chosen_first a y = record { ready = ready_first a y.ready; room = y.room; says = y.says }

-- from the words a, the first of which became e
module _ {limits : Limits} {text : List ℕ} (a e : List ℕ) (n : Counts) {s : State} (c : Choice) (y : Chosen limits text a n.used s c) where
  has_room : {before after : List ℕ} (f : Fetched) → Steps limits text (take stack_words a) e before after n s c (Ok f) → HasRoom c s
  unfolding fetch
  has_room f w sequence q =
      elim (cases_lt s.flow_level limits.levels) [
        | inl l ↦ omega (arith, y.ready.lent.levels_most)
        | inr l ↦
            let b = take stack_words a in
            let r = start_no_room limits sequence text b n.count s l in
            let e : fetch_next limits (state_of text b n.count s) ≡ refused r.0 s.place.mark = rw (← y.says b n.count, q) r.1 in
            not_refused f w.fetches e
      ]

  words_longer : {before after : List ℕ} (r : Result Fetched Refusal) → Steps limits text (take stack_words a) e before after n s c r
      → words_left a (choice_words limits c a n.count s) r ≡ words_left (take stack_words a) (choice_words limits c (take stack_words a) n.count s) r ++ drop stack_words a
  words_longer (Ok f) w =
      let k = ready_key y.ready in
      (choice_longer (first_longer a y.ready) limits n.count s k.0 k.1 c (has_room f w)).is
  words_longer (Err f) w = (first_longer a y.ready).is

  pub steps_longer : {before after : List ℕ} (r : Result Fetched Refusal) → length e ≡ stack_words → Steps limits text (take stack_words a) e before after n s c r
      → Steps limits text a (e ++ drop stack_words a) before after n s c r
  steps_longer r long w =
      let k = ready_key y.ready in
      let h = first_longer a y.ready in
      rw (state_longer h s k.0 k.1 text n.count) (fetches_longer r h (ready_first a y.ready) long w (words_longer r w))

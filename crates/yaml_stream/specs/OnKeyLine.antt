-- A bracket on its key's line, at level 0: the ':' has used up the candidate and allows none, so none is possible behind the bracket, and the list begins as InList has it.
use Rattle.std.specs.Prelude.{ℕ, Bool, ◌&&◌, false, not, true, List, [], ◌≡◌, refl}
use Rattle.std.proofs.Common.{inl, arith}
use Rattle.yaml_text.specs.declared.Mark.{Mark}
use Rattle.yaml_text.specs.Refusal.{◌>>=◌, got}
use Rattle.yaml_text.specs.Test.{by_test}
use Rattle.yaml_text.specs.All.{All, all_any, all_bind, all_need, holds}
use Rattle.yaml_scan.specs.declared.Candidate.{Candidate}
use Rattle.yaml_scan.specs.declared.Candidate.TheVariants.{Absent, Possible}
use Rattle.yaml_scan.specs.declared.Choice.TheVariants.{AtColon, Opens}
use Rattle.yaml_scan.specs.declared.Limits.{Limits}
use Rattle.yaml_scan.specs.Indent.{top_ends}
use Rattle.yaml_scan.specs.Keys.{set_key, top_key}
use Rattle.yaml_scan.specs.State.{Event, News, State, block_ends, ends_with, goes_on, in_flow, mark_of, preceded, save_key}
use Rattle.yaml_scan.specs.Bracket.{fetch_flow_collection_start, stack_bracket}
use Rattle.yaml_scan.specs.Value.{value_by, value_with}
use Rattle.yaml_scan.specs.Choice.{choice}
use Rattle.yaml_scan.specs.Fetch.{fetch}
use Rattle.yaml_scan.specs.Scan.{step, to_next_token, unrolled}
use Rattle.yaml_scan.specs.Slots.{flat}
use Rattle.yaml_scan.specs.Steps.{unrolled_state}
use Rattle.yaml_stream.specs.Alone.{Absents, absents_drop}
use Rattle.yaml_stream.specs.Here.{Alone}
use Rattle.yaml_stream.specs.InList.{Listed}

-- the list's start: '[' where no simple key is allowed and none is possible

abbrev Opening : News → Type 0
Opening (goes_on es t) = (in_flow t ≡ true) × Absents t.keys
Opening (ends_with es) = Unit {0}

stack_keys : (limits : Limits) (s : State) → All State (λ t. t.keys ≡ s.keys) (stack_bracket limits s)
unfolding stack_bracket
stack_keys limits s =
    by_test (not (in_flow s) && top_ends s.indents.entries)
    (λ e. rw (e, stack_bracket) (all_bind _ (all_any _) (λ i _. holds refl)))
    (λ e. rw (e, stack_bracket) (holds refl))

not_saved : (s : State) → s.simple_key_allowed ≡ false → save_key s ≡ s
unfolding save_key
not_saved s e = rw e

open_fetched : (limits : Limits) (sequence : Bool) (s : State) (bs : List Event) → s.simple_key_allowed ≡ false → Absents s.keys
    → All News (λ w. Opening (preceded bs w)) (fetch limits (Opens sequence) s)
unfolding fetch fetch_flow_collection_start in_flow
open_fetched limits sequence s bs e h =
    rw (not_saved s e) (all_bind _ (stack_keys limits s) (λ t k. all_need _ _ _ _ (all_bind _ (all_any _) (λ l _. said refl (rw k h)))))
  where
    said : {es : List Event} {t : State} → in_flow t ≡ true → Absents t.keys → All News (λ w. Opening (preceded bs w)) (got (goes_on es t))
    said {es} {t} f a = holds {a = goes_on es t} (f, a)

-- behind the gap the state is v
pub opens_list : (limits : Limits) (sequence : Bool) (s v : State) → to_next_token s ≡ got v → choice (unrolled_state v) ≡ Opens sequence → v.simple_key_allowed ≡ false → Absents v.keys
    → All News Opening (step limits s)
unfolding step ◌>>=◌
opens_list limits sequence s v e c f h =
    rw (e, c) (all_bind _ (open_fetched limits sequence (unrolled_state v) (block_ends (unrolled v).ended (mark_of v)) f h) (λ w k. holds k))

-- no candidate is left, so what waits is given, and the list begins
pub opened_listed : (s : State) → in_flow s ≡ true → Absents s.keys → Listed s []
unfolding flat
opened_listed s e h = record { flows = e; outer = absents_drop s.keys h; few = inl (omega arith) }

-- and so it is behind a ':' that used up the candidate of level 0

abbrev Used : List Candidate → News → Type 0
Used ks (goes_on es t) = (t.simple_key_allowed ≡ false) × (t.keys ≡ set_key Absent ks)
Used ks (ends_with es) = Unit {0}

value_fetched : (limits : Limits) (s : State) (bs : List Event) (required : Bool) (n : ℕ) (m : Mark) → top_key s.keys ≡ Possible required n m
    → All News (λ w. Used s.keys (preceded bs w)) (fetch limits AtColon s)
unfolding fetch value_by value_with
value_fetched limits s bs required n m e = rw (e, value_by) (all_bind _ (all_any _) (λ r _. said refl refl))
  where
    said : {es : List Event} {t : State} → t.simple_key_allowed ≡ false → t.keys ≡ set_key Absent s.keys → All News (λ w. Used s.keys (preceded bs w)) (got (goes_on es t))
    said {es} {t} f a = holds {a = goes_on es t} (f, a)

pub colon_uses : (limits : Limits) (s v : State) (required : Bool) (n : ℕ) (m : Mark) → to_next_token s ≡ got v → choice (unrolled_state v) ≡ AtColon → top_key v.keys ≡ Possible required n m
    → All News (Used v.keys) (step limits s)
unfolding step ◌>>=◌
colon_uses limits s v required n m e c k =
    rw (e, c) (all_bind _ (value_fetched limits (unrolled_state v) (block_ends (unrolled v).ended (mark_of v)) required n m k) (λ w j. holds j))

-- from the ':' to the list's first entry

-- over a gap none comes

-- a key's ':' at level 0 and a bracket on its line: from the state s, before the ':', to the state u, behind the bracket
pub record KeyLine (limits : Limits) (s u : State) : Type 0 where
  -- behind the gap, at a ':' that has a candidate
  pub at_colon : State
  pub first_gap : to_next_token s ≡ got at_colon
  pub colon : choice (unrolled_state at_colon) ≡ AtColon
  pub outside : in_flow at_colon ≡ false
  pub alone : Alone at_colon
  pub required : Bool
  pub number : ℕ
  pub mark : Mark
  pub candidate : top_key at_colon.keys ≡ Possible required number mark
  -- behind the ':'
  pub value : State
  pub first_events : List Event
  pub first_step : step limits s ≡ got (goes_on first_events value)
  -- behind the gap, which passes over no break and so allows no key, at the bracket
  pub at_bracket : State
  pub second_gap : to_next_token value ≡ got at_bracket
  pub forbidden : at_bracket.simple_key_allowed ≡ false
  pub sequence : Bool
  pub bracket : choice (unrolled_state at_bracket) ≡ Opens sequence
  pub second_events : List Event
  pub second_step : step limits value ≡ got (goes_on second_events u)

-- no key is possible behind the ':', nor behind the bracket

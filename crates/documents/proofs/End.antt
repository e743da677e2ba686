-- The end of the text, case by case as the definition has it: in flow, a required key pending, else the ends of all blocks.
use Prim.Native.Nat.{◌<◌, ◌≤◌, ℕ}
use mathlib.Core.Bool.{false, true}
use mathlib.Core.List.{List, [], ◌++◌, ◌∷◌}
use mathlib.Core.Path.{◌≡◌, refl}
use native.Mathlib.Omega.{arith}
use borrow.Author.Tests.{le-ltb, lt-ltb}
use Rattle.std.specs.Prelude.{Ok, Err}
use Rattle.yaml_text.specs.Refusal.{◌>>=◌, need}
use Rattle.yaml_lexeme.specs.declared.Kind.TheVariants as held_as
use Rattle.yaml_lexeme.specs.Record.{laid}
use Rattle.yaml_lexeme.specs.Token.{StreamEnd, empty_token, kind_bytes}
use Rattle.yaml_scan.specs.declared.Limits.{Limits}
use Rattle.yaml_scan.specs.Document.{fetch_stream_end, forced}
use Rattle.yaml_scan.specs.Keys.{is_required}
use Rattle.yaml_scan.specs.State.{block_ends, put}
use Rattle.stacks.specs.declared.indent.Unrolled.{Unrolled}
use Rattle.stacks.specs.Frame.{key_of}
use Rattle.stacks.specs.Indent.{Unrolls}
use Rattle.events.specs.declared.Counts.{Counts}
use Rattle.events.specs.Event.{closing_of}
use Rattle.events.specs.Laid.{Textless, textless_size}
use Rattle.states.specs.declared.Fetched.TheVariants.{Ends}
use Rattle.states.specs.declared.State.{State}
use Rattle.states.specs.Answer.{fetch_ends, fetch_refused}
use Rattle.states.specs.Fetch.{FetchesQuiet, Ready}
use Rattle.states.specs.Seen.{in_flow_seen, top_seen}
use Rattle.states.specs.State.{state_of}
use Rattle.documents.proofs.Leave.{laid_behind_ends}

textless : Textless StreamEnd held_as.StreamEnd
unfolding laid kind_bytes
textless = record { same = λ used. refl; bytes = refl }

module _ {limits : Limits} {text a : List ℕ} {n : Counts} {s : State} where
  pub end_flow : 0 < s.flow_level
      → FetchesQuiet limits text a a a n s (fetch_stream_end (state_of text a n.count s)) (Err (record { number = 47; mark = s.place.mark }))
  unfolding fetch_stream_end need ◌>>=◌
  end_flow h = fetch_refused (rw (in_flow_seen text a n.count s, lt-ltb 0 s.flow_level h)) refl

  module _ (h : s.flow_level ≤ 0) where
    pub end_required : is_required (key_of a s.flow_level) ≡ true
        → FetchesQuiet limits text a a a n s (fetch_stream_end (state_of text a n.count s)) (Err (record { number = 41; mark = forced s.place.mark }))
    unfolding fetch_stream_end need ◌>>=◌
    end_required e =
        fetch_refused (rw (in_flow_seen text a n.count s, le-ltb 0 s.flow_level h, top_seen a s.flow_level, e)) refl

    pub ends : {u : Unrolled} → Ready limits text a s → is_required (key_of a s.flow_level) ≡ false → Unrolls a 0 s.indents u
        → FetchesQuiet limits text a a a n s (fetch_stream_end (state_of text a n.count s))
        (Ok (Ends (closing_of u.ended (record { kind = held_as.StreamEnd; start = forced s.place.mark; end = forced s.place.mark }))))
    unfolding fetch_stream_end need ◌>>=◌
    ends {u} y e w =
        let m = forced s.place.mark in
        fetch_ends (block_ends u.ended m ++ (put (empty_token StreamEnd m) ∷ [])) (laid_behind_ends textless _ n.used u.ended m m)
        (rw (in_flow_seen text a n.count s, le-ltb 0 s.flow_level h, top_seen a s.flow_level, e, ← w.same))
        (omega (arith, w.few, y.low.deep, y.lent.entries_most)) (textless_size textless) refl

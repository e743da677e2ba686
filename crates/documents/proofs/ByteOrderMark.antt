-- A byte order mark is a token of three bytes behind the ends of all blocks.
use Prim.Native.Nat.{ℕ}
use mathlib.Core.Bool.{true}
use mathlib.Core.List.{List}
use mathlib.Core.Path.{refl}
use native.Mathlib.Omega.{arith}
use lib.ListN.{drop}
use Rattle.std.specs.Prelude.{Ok}
use Rattle.yaml_text.specs.Char.{byte_order_mark}
use Rattle.yaml_text.specs.Mark.{here, over_bom}
use Rattle.yaml_text.specs.Utf8.{chars}
use Rattle.yaml_lexeme.specs.declared.Kind.TheVariants as held_as
use Rattle.yaml_lexeme.specs.Record.{laid}
use Rattle.yaml_lexeme.specs.Token.{ByteOrderMark, kind_bytes}
use Rattle.yaml_scan.specs.declared.Limits.{Limits}
use Rattle.yaml_scan.specs.Document.{fetch_byte_order_mark}
use Rattle.chars.specs.Bytes.{CharAt}
use Rattle.chars.specs.Places.{stands_bom}
use Rattle.chars.specs.View.{past}
use Rattle.stacks.specs.declared.indent.Unrolled.{Unrolled}
use Rattle.events.specs.declared.Counts.{Counts}
use Rattle.events.specs.Laid.{Textless}
use Rattle.states.specs.declared.State.{State}
use Rattle.states.specs.Fetch.{FetchesQuiet, Ready}
use Rattle.states.specs.Key.{removed_words}
use Rattle.states.specs.State.{state_of}
use Rattle.documents.specs.Leave.{LeavesBlocks, goes_outside}
use Rattle.documents.proofs.Leave.{fetch_outside}

textless : Textless ByteOrderMark held_as.ByteOrderMark
unfolding laid kind_bytes
textless = record { same = λ used. refl; bytes = refl }

pub bom_goes : {limits : Limits} {text a e : List ℕ} {n : Counts} {s : State} {u : Unrolled} → Ready limits text a s → CharAt text s.place.at byte_order_mark 3 → LeavesBlocks a e s u
    → FetchesQuiet limits text a e (removed_words a s) n s (fetch_byte_order_mark (state_of text a n.count s))
    (Ok (goes_outside s u (past s.place 3 (over_bom s.place.mark)) s.leading_whitespace true
    (record { kind = held_as.ByteOrderMark; start = s.place.mark; end = over_bom s.place.mark })))
unfolding fetch_byte_order_mark
bom_goes {text = text} {n = n} {s = s} y k l =
    let m = over_bom s.place.mark in
    fetch_outside y l textless (here m (drop 1 (chars (drop s.place.at text)))) m s.leading_whitespace true (rw k.next) (stands_bom y.stands k.within) (omega arith)
    (rw (← l.same text n.count))

-- Each way out is one case of what the first octet leads.
use Rattle.std.proofs.Common.{◌≡◌, ◌∷◌, ◌∙◌, ap, arith, refl, rules, sym}
use Rattle.std.proofs.lemmas.Result.{err_from_is_err_and}
use Rattle.yaml_text.specs.Utf8.{first}
use Rattle.escapes.specs.CodePoint.{char_small}
use Rattle.escapes.proofs.Answers.{answers, refuses}
use Rattle.escapes.proofs.Percents.{Lead, filled, lead, lead_within, percent_char, percent_ill, percent_leads_none, percent_missing, percent_refused, percent_within, room, trailed}
use Rattle.escapes.proofs.percent.percent.Goals as goal
use Rattle.escapes.proofs.percent.percent.Goals.{After-char_at-d, Else-n-eq0}

-- what the first octet leads
leads : (c : Else-n-eq0) → Lead c.args.text.now c.args.p.at c.in-Some.a c.lead_len-n.result
leads c = lead c.in-Some.ensures c.lead_len-n.ensures c.if-n-eq0.false

-- the character of the octets, where all were read
char : (c : After-char_at-d) → Lead c.args.text.now c.args.p.at c.in-Some.a c.lead_len-n.result
    → c.char_at-d.result ≡ first (c.in-Some.a ∷ c.trailing.new.out)
char c h = c.char_at-d.ensures ∙ ap first (filled _ _ _ _ h.some (c.trailing.auto.out ∙ room h))

pub returns-in_default : goal.returns-in_default
returns-in_default c = refuses (percent_missing _ c.in_default.ensures) c.refuse.ensures

pub returns-then-n-eq0 : goal.returns-then-n-eq0
returns-then-n-eq0 c = refuses (percent_leads_none _ c.in-Some.ensures c.lead_len-n.ensures c.if-n-eq0.true) c.refuse-then-n-eq0.ensures

pub slice_bounds-bytes-end : goal.slice_bounds-bytes-end
slice_bounds-bytes-end c = let h = (leads c).few in search rules

pub trailing-requires : goal.trailing-requires
trailing-requires c =
    let h = leads (goal.at.trailing-requires c).Else-n-eq0 in
    (lead_within h c.requires.within, omega (arith, room h, h.few))

pub returns-in_err-trailing : goal.returns-in_err-trailing
returns-in_err-trailing c =
    let h = leads (goal.at.returns-in_err-trailing c).Else-n-eq0 in
    let p = err_from_is_err_and c.from_residual.result c.from_residual.ensures.1 in
    rw (p.1, p.2) (refuses (percent_refused _ h (trailed h c.in_err-trailing.ensures.read)) refl)

pub returns-in_default-d : goal.returns-in_default-d
returns-in_default-d c =
    let h = leads (goal.at.returns-in_default-d c).Else-n-eq0 in
    let d = char (goal.at.returns-in_default-d c).After-char_at-d h in
    refuses (percent_ill _ h (trailed h c.in_ok-trailing.ensures.read) d c.in_default-d.not-Char) c.refuse-in_default-d.ensures

pub returns : goal.returns
returns c =
    let h = leads (goal.at.returns c).Else-n-eq0 in
    let all = trailed h c.in_ok-trailing.ensures.read in
    let d = char (goal.at.returns c).After-char_at-d h in
    let e = c.in-Char.is in
    answers c.requires (percent_char _ h all d e) c.skip_n_non_blank-next.ensures
    (omega (arith, h.some)) (percent_within h c.requires.within all) (char_small _ _ _ (sym d ∙ e))

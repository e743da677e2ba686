-- The bytes of the name are compared with those of the two names; a version has no text.
use Rattle.std.proofs.Common.{◌∙◌, refl}
use Rattle.directives.proofs.Names.{of_other, of_tag, of_version, same_slices}
use Rattle.directives.proofs.Versions.{no_texts}
use Rattle.directives.proofs.directive_of.Goals as goal

pub returns-then-eq : goal.returns-then-eq
returns-then-eq c =
    of_version _ c.requires.name (c.eq.ensures ∙ same_slices _ _) c.if-eq.true
    (record { answers = c.version_directive.ensures _; texts = no_texts _ _ _; kept = refl })

pub returns-then-eq-2 : goal.returns-then-eq-2
returns-then-eq-2 c =
    of_tag _ c.requires.name (c.eq.ensures ∙ same_slices _ _) c.if-eq.false (c.eq-2.ensures ∙ same_slices _ _) c.if-eq-2.true c.tag_directive.ensures

pub returns : goal.returns
returns c =
    of_other _ c.requires.name (c.eq.ensures ∙ same_slices _ _) c.if-eq.false (c.eq-2.ensures ∙ same_slices _ _) c.if-eq-2.false c.reserved_directive.ensures

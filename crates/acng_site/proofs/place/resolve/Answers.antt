use Rattle.std.proofs.Common.{◌≡◌, ◌∙◌, Some, None, subst, sym}
use Rattle.url.specs.Parser.{parse_url}
use Rattle.acng_site.specs.Places.{read_of}
use Rattle.acng_site.proofs.Resolves.{stray_url, stray_reference, follows}
use Rattle.acng_site.proofs.place.resolve.Goals as goal

pub returns-in_default : goal.returns-in_default
returns-in_default c = stray_url _ _ c.in_default.ensures.cases.0

pub returns-in_default-from_utf8 : goal.returns-in_default-from_utf8
returns-in_default-from_utf8 c = stray_reference _ _ c.in_default-from_utf8.ensures.cases.0

pub returns : goal.returns
returns c =
    let base = c.in-Some.base in
    let found = c.in_ok-found.found in
    let read : c.in_ok-base.field-0 ≡ read_of (parse_url None c.in-Ok.url.now) = c.in_ok-base.ensures _ c.parse.ensures in
    let by : found ≡ read_of (parse_url (Some base) c.in-Ok-from_utf8.reference.now) = c.in_ok-found.ensures _ c.join.ensures in
    follows c.args.url.now c.args.reference.now base found c.in-Ok.ensures.cases.1 c.in-Ok-from_utf8.ensures.cases.1
    (subst (λ url. Some base ≡ read_of (parse_url None url)) c.in-Ok.ensures.cases.0 (sym c.in-Some.is ∙ read))
    (subst (λ reference. found ≡ read_of (parse_url (Some base) reference)) c.in-Ok-from_utf8.ensures.cases.0 by)

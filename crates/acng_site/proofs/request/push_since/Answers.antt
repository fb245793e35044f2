use Rattle.std.proofs.Common.{◌++◌, ◌∙◌, codes, refl, subst, sym, ap}
use Rattle.httpdate.specs.Date.{date_text}
use Rattle.acng_site.specs.Requests.{IsSinceLine}
use Rattle.acng_site.proofs.Joins.{three}
use Rattle.acng_site.proofs.request.push_since.Goals as goal

pub returns : goal.returns
returns c =
    let date = c.date_of.result in
    let line = codes "If-Modified-Since: " ++ date_text date ++ codes "\r\n" in
    let since : IsSinceLine c.args.ask.now.since line =
    subst (λ s. IsSinceLine s line) (sym c.in-Some.is) (date, c.date_of.ensures, refl) in
    let first = c.in_ok-extend_from_slice.ensures.items in
    let second =
    c.in_ok-extend_from_slice-2.ensures.items
    ∙ ap (λ piece. c.extend_from_slice.new.self.items ++ piece) (c.as_slice.ensures ∙ c.to_bytes.ensures) in
    let last = c.in_ok-extend_from_slice-3.ensures.items in
    (line, since, three _ (codes "If-Modified-Since: ") (date_text date) (codes "\r\n") _ _ _ first second last)

use Rattle.std.proofs.Common.{◌++◌, ◌∙◌, ap, codes}
use Rattle.acng_site.specs.Requests.{host_part, range_lines, target}
use Rattle.acng_site.proofs.Joins.{eight}
use Rattle.acng_site.proofs.request.ask_text.Goals as goal

pub returns : goal.returns
returns c =
    let ask = c.args.ask.now in
    let url = c.args.url.now in
    let since = c.in_ok-push_since.ensures in
    let first = c.in_ok-push_target.ensures ∙ ap (λ text. text ++ target url) c.in_ok-text.ensures.items in
    let joined =
    eight (codes "GET ") (target url) (codes " HTTP/1.1\r\nHost: ") (host_part url)
    (codes "\r\nUser-Agent: acng\r\nConnection: close\r\n") (range_lines ask.from ask.tag) since.0 (codes "\r\n")
    _ _ _ _ _ _ _
    first c.in_ok-extend_from_slice.ensures.items c.in_ok-push_host.ensures c.in_ok-extend_from_slice-2.ensures.items
    c.in_ok-push_range.ensures since.2 c.in_ok-extend_from_slice-3.ensures.items
    in
    (since.0, since.1, c.of.ensures ∙ joined)

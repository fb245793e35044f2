use Rattle.std.proofs.Common.{sym, ◌∙◌}
use Rattle.acng_remap.proofs.Following.{by_path}
use Rattle.acng_remap.proofs.law.one_path_one_origins.Goals as goal

pub returns : goal.returns
returns c =
    λ m t n u path origins others plain first second.
    by_path c.args.conf.now m t path origins c.groups-groups.ensures.names first plain ∙ sym (by_path c.args.conf.now n u path others c.groups-groups.ensures.names second plain)

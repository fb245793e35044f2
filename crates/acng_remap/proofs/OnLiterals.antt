-- What a row unfolds, to read a target from its bytes.
use Rattle.std.specs.Bool.{⊤}
use Rattle.std.specs.Fmt.{digits}
use Rattle.percent_encoding.proofs.OnLiterals.{percent_encoding_on_literals}
use Rattle.acng_remap.specs.Decisions.{group_of, deciding}
use Rattle.acng_remap.specs.Forms.{is_tls, page_query, after_start}
use Rattle.acng_remap.specs.Hosts.{host_port, host_name, host_text}
use Rattle.acng_remap.specs.Readings.{reading, group_origins, group_file, file_outside_groups, place_file, host_file, target_file}

unfoldable pub remap_on_literals : ⊤
unfolding percent_encoding_on_literals digits group_of deciding is_tls page_query after_start host_port host_name host_text reading group_origins group_file file_outside_groups place_file host_file target_file
remap_on_literals = tt

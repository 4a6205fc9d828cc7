-- The words of headers are not all 0.
use Rattle.std.proofs.Common.{ℕ, ◌<◌, arith}
use Rattle.pcap_input.specs.declared.frames.Endpoint.{Endpoint}
use Rattle.edge_io.specs.Bytes.{word_sum}
use Rattle.pcap_input.specs.Frames.{ip_fields, pseudo_header}

-- the version of IPv4 is among the words of its header
pub ip_positive : (source destination : Endpoint) (protocol size check : ℕ) → 0 < word_sum (ip_fields source destination protocol size check)
unfolding word_sum ip_fields
ip_positive source destination protocol size check = omega arith

-- an address that begins with 10 is among the words of a pseudo header
pub pseudo_positive : (source destination : Endpoint) (protocol size : ℕ) → 0 < word_sum (pseudo_header source destination protocol size)
unfolding word_sum pseudo_header
pseudo_positive source destination protocol size = omega arith

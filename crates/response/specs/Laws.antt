-- Writing and reading NAS responses undo each other; the function `laws` promises it.
use Rattle.std.specs.Prelude.{ℕ, ◌+◌, ◌≤◌, true, List, ◌≡◌, length, Some}
use Rattle.octets.specs.Laws.{below}
use Rattle.octets.specs.Part.{part}
use Rattle.octets.specs.Search.{all_of}
use Rattle.eap.specs.Packet.{read_packet, spare}
use Rattle.response.specs.Response.{nas_start, parameters_start, reply_room, response, write_refusal, written_packet}
use Rattle.eap.specs.declared.Packet.TheVariants.{NasResponse}

-- a packet is read as a NAS response with these fields
pub record Reads (l : List ℕ) (identifier : ℕ) (parameters nas : List ℕ) : Type 0 where
  pub is : read_packet l ≡ Some (written_packet identifier parameters nas)
  pub parameters_are : part l parameters_start (length parameters) ≡ parameters
  pub nas_is : part l (nas_start (length parameters)) (length nas) ≡ nas

pub record Laws : Type 0 where
  -- what is written is read back as the same fields
  pub write_read : (identifier : ℕ) (parameters nas : List ℕ) (room : ℕ) → write_refusal identifier parameters nas room ≡ 0
      → Reads (response identifier parameters nas) identifier parameters nas
  -- what is read is not refused, and is written back as the same octets where spare is 0 and nothing follows NAS
  pub read_write : (l : List ℕ) → all_of (below 256) l ≡ true → (identifier p m at n : ℕ) → read_packet l ≡ Some (NasResponse identifier p m at n)
      → (write_refusal identifier (part l p m) (part l at n) reply_room ≡ 0)
      × (spare l ≡ 0 → at + n ≡ length l → response identifier (part l p m) (part l at n) ≡ l)
  -- a response fits the smallest buffer
  pub response_fits : (identifier : ℕ) (parameters nas : List ℕ) (room : ℕ) → write_refusal identifier parameters nas room ≡ 0
      → length (response identifier parameters nas) ≤ room

-- What a call answers: 0, the number of a refusal, or how it was called wrongly.
use Rattle.std.specs.Prelude.{ℤ, pos}

abbrev pub ok : ℤ
ok = pos 0

abbrev pub no_type : ℤ  -- none of the types of the media stands behind a payload
no_type = pos 57

abbrev pub no_end : ℤ  -- the handle holds no end
no_end = pos 71

abbrev pub is_held : ℤ  -- the handle holds an end already
is_held = pos 72

abbrev pub out_of_memory : ℤ
out_of_memory = pos 73

abbrev pub too_large : ℤ  -- a length or a count is above its largest
too_large = pos 74

abbrev pub no_room : ℤ  -- a buffer has less room than this datagram or payload needs
no_room = pos 75

abbrev pub null_pointer : ℤ  -- a pointer is null where something has to lie
null_pointer = pos 76

abbrev pub bad_size : ℤ  -- a struct is shorter than it is known here, or says what is not known here
bad_size = pos 77

abbrev pub has_started : ℤ  -- a packet was taken already
has_started = pos 40

abbrev pub bad_limit : ℤ  -- a number is out of its bounds
bad_limit = pos 53

abbrev pub too_long : ℤ  -- a payload or an extension is above its largest
too_long = pos 37

abbrev pub padded_empty : ℤ  -- padding is wanted, and the payload is empty
padded_empty = pos 44

abbrev pub bad_type : ℤ  -- a payload type is out of its bounds
bad_type = pos 51

abbrev pub bad_key : ℤ  -- a profile is not known, or a master key and its salt have not 30 octets
bad_key = pos 102

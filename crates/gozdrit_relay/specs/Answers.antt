-- What a client is answered. Text is a list of octets.
use Rattle.std.specs.Prelude.{ℕ, ◌==◌, ◌&&◌, nat_le, List, [], ◌∷◌, ◌++◌, length, take, if◌then◌else◌, codes}
use Rattle.std.specs.Fmt.{decimal}
use Rattle.std.specs.List.{flat_map}
use Rattle.lines.specs.Line.{line_of}
use Rattle.gozdrit_relay.specs.Figures.{figure_words}
use Rattle.gozdrit_relay.specs.Metrics.{metrics_text}
use Rattle.gozdrit_relay.specs.Stats.{stats_line}
use Rattle.gozdrit_relay.specs.declared.asking.Asked.{Asked}
use Rattle.gozdrit_relay.specs.declared.asking.Asked.TheVariants.{Stats, Stop, Reopen, NoLog, To, NoAddress, Peer, NoPeers, Unknown, Metrics, NoPage, NoMethod, Malformed, LongLine, LongHead}
use Rattle.gozdrit_relay.specs.declared.figures.Figure.{Figure}

-- an octet that is a character of ASCII as it is, and a question mark for another one
abbrev pub visible : ℕ → ℕ
visible octet = if nat_le 32 octet && nat_le octet 126 then octet else 63

-- what stands before the first line feed, as it is shown
abbrev pub shown_line : List ℕ → List ℕ
shown_line [] = []
shown_line (c ∷ more) = if c == 10 then [] else visible c ∷ shown_line more

-- the beginning of the first line
abbrev pub shown : List ℕ → List ℕ
shown octets = shown_line (take 64 octets)

-- the line of a request that is done
abbrev pub word_line : (word : List ℕ) → List ℕ
word_line word = line_of (word ∷ [])

-- the line of a request that is refused
abbrev pub fault_line : (octets why : List ℕ) → List ℕ
fault_line octets why = line_of (codes "fault request:" ∷ shown octets ∷ why ∷ [])

-- the head of a response of HTTP (RFC 9112, sections 4 and 5), with the length of its body behind the name of its last field
abbrev pub head_of : (status fields : List ℕ) → (count : ℕ) → (end : List ℕ) → List ℕ
head_of status fields count end = line_of (codes "HTTP/1.1" ∷ status ∷ fields ∷ decimal count ∷ end ∷ [])

abbrev pub fields_of_page : List ℕ
fields_of_page = codes "\r\nConnection: close\r\nContent-Type: text/plain; version=0.0.4; charset=utf-8\r\nContent-Length:"

-- a response with its body, which ends with its connection
abbrev pub page_of : (status end body : List ℕ) → List ℕ
page_of status end body = head_of status fields_of_page (length body) end ++ body

-- the answer to each request; one that ends the run is answered by the last line of counts
abbrev pub answer_text : Asked → (octets prefix : List ℕ) → List Figure → List ℕ
answer_text Stats octets prefix figures = stats_line figures
answer_text Stop octets prefix figures = line_of (flat_map figure_words figures)
answer_text Metrics octets prefix figures = page_of (codes "200 OK") (codes "\r\n\r") (metrics_text prefix figures)
answer_text Reopen octets prefix figures = word_line (codes "reopen")
answer_text To octets prefix figures = word_line (codes "to")
answer_text Peer octets prefix figures = word_line (codes "peer")
answer_text NoLog octets prefix figures = fault_line octets (codes "has no --log to open")
answer_text NoAddress octets prefix figures = fault_line octets (codes "says no address that can be sent to")
answer_text NoPeers octets prefix figures = fault_line octets (codes "lists no peers by their addresses")
answer_text Unknown octets prefix figures = fault_line octets (codes "is none of stats, to, peer, reopen and stop")
answer_text LongLine octets prefix figures = fault_line octets (codes "has more than 8192 octets")
answer_text LongHead octets prefix figures = page_of (codes "431 Request Header Fields Too Large") (codes "\r\n\r") (codes "too long\n")
answer_text Malformed octets prefix figures = page_of (codes "400 Bad Request") (codes "\r\n\r") (codes "this is no HTTP\n")
answer_text NoPage octets prefix figures = page_of (codes "404 Not Found") (codes "\r\n\r") (codes "there is /metrics alone\n")
answer_text NoMethod octets prefix figures = page_of (codes "405 Method Not Allowed") (codes "\r\nAllow: GET\r\n\r") (codes "there is GET alone\n")

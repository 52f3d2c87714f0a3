-- What a client asks for. Text is a list of octets, and 10 is the line feed.
use Rattle.std.specs.Prelude.{ℕ, ◌==◌, List, [], ◌∷◌, length, take, Bool, false, true, nat_le, if◌then◌else◌, Option, Some, None, option_map, codes, bytes_eq}
use Rattle.gozdrit_relay.specs.declared.asking.Asked.{Asked}
use Rattle.gozdrit_relay.specs.declared.asking.Asked.TheVariants.{Stats, Stop, Reopen, NoLog, To, NoAddress, Peer, NoPeers, Unknown, Metrics, NoPage, NoMethod, Malformed, LongLine, LongHead}
use Rattle.gozdrit_relay.specs.declared.asking.Come.{Come}
use Rattle.gozdrit_relay.specs.declared.asking.Come.TheVariants.{Asks, More, Gone}

-- what stands before the first line feed
abbrev pub first_line : List ℕ → Option (List ℕ)
first_line [] = None
first_line (c ∷ more) = if c == 10 then Some [] else option_map (λ line. c ∷ line) (first_line more)

-- a line asks by its whole text, or by its first word where more has to stand behind that
abbrev pub asked_of_line : List ℕ → Asked
asked_of_line line =
    if bytes_eq line (codes "stats") then Stats
    else if bytes_eq line (codes "stop") then Stop
    else if bytes_eq line (codes "reopen") then Reopen
    else if bytes_eq (take 3 line) (codes "to ") then To
    else if bytes_eq (take 5 line) (codes "peer ") then Peer
    else Unknown

-- a relay without a log has none to open anew, and a change that is asked for has to be said so that it can be made
abbrev pub asked_where : (has_log has_change : Bool) → Asked → Asked
asked_where has_log has_change Stats = Stats
asked_where has_log has_change Stop = Stop
asked_where has_log has_change Reopen = if has_log then Reopen else NoLog
asked_where has_log has_change NoLog = NoLog
asked_where has_log has_change To = if has_change then To else NoAddress
asked_where has_log has_change NoAddress = NoAddress
asked_where has_log has_change Peer = if has_change then Peer else NoPeers
asked_where has_log has_change NoPeers = NoPeers
asked_where has_log has_change Unknown = Unknown
asked_where has_log has_change Metrics = Metrics
asked_where has_log has_change NoPage = NoPage
asked_where has_log has_change NoMethod = NoMethod
asked_where has_log has_change Malformed = Malformed
asked_where has_log has_change LongLine = LongLine
asked_where has_log has_change LongHead = LongHead

-- a page is asked for by its path, and then by the method
abbrev pub asked_of_page : (method target : List ℕ) → Asked
asked_of_page method target = if bytes_eq target (codes "/metrics") then (if bytes_eq method (codes "GET") then Metrics else NoMethod) else NoPage

-- A request of 8192 octets that is not whole is too long; else more of it may come, as long as the client is there.
abbrev pub unfinished : (count : ℕ) → (is_gone : Bool) → (long : Asked) → Come
unfinished count is_gone long = if nat_le 8192 count then Asks long else if is_gone then Gone else More

abbrev pub heard_by : Option (List ℕ) → (count : ℕ) → (is_gone : Bool) → Come
heard_by (Some line) count is_gone = Asks (asked_of_line line)
heard_by None count is_gone = unfinished count is_gone LongLine

abbrev pub line_heard : List ℕ → (is_gone : Bool) → Come
line_heard octets is_gone = heard_by (first_line octets) (length octets) is_gone

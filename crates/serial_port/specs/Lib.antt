-- The port: bytes collected into lines, and one reply to each; playing a sequence; serving a stream.
pub mod Call
pub mod Play
pub mod Port
pub mod Refusal
pub mod Server
pub mod Stream

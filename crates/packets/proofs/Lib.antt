-- What the calls that read packets answer, by the tests of their headers.
mod Turned

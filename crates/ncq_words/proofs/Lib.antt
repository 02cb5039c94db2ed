mod Plain
mod Parses

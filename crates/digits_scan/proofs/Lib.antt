mod Blank
mod Few
